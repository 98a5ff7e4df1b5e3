-- What a term has by its parts: brackets, signs, and two terms with a sign between.
use Rattle.std.proofs.Common.{◌≡◌, refl, sym, ap, ◌∙◌, ℕ, Bool, true, false, Option, Some, None}
use Rattle.std.specs.Prelude.{cond, ◌&&◌, nat_eq, nat_le}
use Rattle.c_parser.specs.declared.tree.UnarySign.{UnarySign}
use Rattle.c_parser.specs.declared.tree.UnarySign.TheVariants as un
use Rattle.clan_extract.specs.Regions.{Expression, Number, Remainder, Comparison, Condition, Compare, Both, Either, Opposite}
use Rattle.clan_extract.specs.Forms.{is_affine}
use Rattle.clan_extract.specs.Scops.{is_lower_bound, is_upper_bound, is_equality, is_condition}
use Rattle.region_trees.specs.Terms.{Operation, Plus, Minus, Times, Divide, Modulo, Conjunction, Disjunction, Compares, Term, Integer, Literal, Named, Call, Bracket, Signed, Joined, Choice}
use Rattle.region_trees.specs.Regions.{option_map, option_map2, first_some, expression_of, divisor_of, integer_of, remainder_of, condition_of, bound_of}
use Rattle.region_rules.specs.declared.facts.Affinity.{Affinity}
use Rattle.region_rules.specs.declared.facts.Affinity.TheVariants as aff
use Rattle.region_rules.specs.declared.facts.Size.{Size}
use Rattle.region_rules.specs.declared.facts.Facts.{Facts}
use Rattle.region_rules.specs.Facts.{holds, size_of, affinity_of, is_fair, facts_of, is_zero, is_positive, is_affine_kind, integer, bracketed, signed, join}
use Rattle.region_rules.proofs.Affinities.{and_false, size_is_some, size_is_zero, affine_is, sums, differences, products, negations, IsBare, bare}

-- ---- facts, one by one

abbrev facts : Affinity → Option Size → Bool → Bool → Bool → Bool → Bool → Facts
facts a n d r c l u = record { affinity = a; number = n; is_divisor = d; is_remainder = r; is_condition = c; is_lower_bound = l; is_upper_bound = u }

pub same : (f g : Facts) → f.affinity ≡ g.affinity → f.number ≡ g.number → f.is_divisor ≡ g.is_divisor → f.is_remainder ≡ g.is_remainder
    → f.is_condition ≡ g.is_condition → f.is_lower_bound ≡ g.is_lower_bound → f.is_upper_bound ≡ g.is_upper_bound → f ≡ g
same f g pa pn pd pr pc pl pu =
    ap (λ x. facts x f.number f.is_divisor f.is_remainder f.is_condition f.is_lower_bound f.is_upper_bound) pa
    ∙ ap (λ x. facts g.affinity x f.is_divisor f.is_remainder f.is_condition f.is_lower_bound f.is_upper_bound) pn
    ∙ ap (λ x. facts g.affinity g.number x f.is_remainder f.is_condition f.is_lower_bound f.is_upper_bound) pd
    ∙ ap (λ x. facts g.affinity g.number g.is_divisor x f.is_condition f.is_lower_bound f.is_upper_bound) pr
    ∙ ap (λ x. facts g.affinity g.number g.is_divisor g.is_remainder x f.is_lower_bound f.is_upper_bound) pc
    ∙ ap (λ x. facts g.affinity g.number g.is_divisor g.is_remainder g.is_condition x f.is_upper_bound) pl
    ∙ ap (λ x. facts g.affinity g.number g.is_divisor g.is_remainder g.is_condition g.is_lower_bound x) pu

-- of a term that is an expression, a remainder or a condition, but no integer and no other bound
expression_facts : (t : Term) (a : Affinity) (r c : Bool) → affinity_of (expression_of t) ≡ a → integer_of t ≡ None → divisor_of t ≡ None
    → holds is_fair (remainder_of t) ≡ r → holds is_condition (condition_of t) ≡ c → bound_of t ≡ expression_of t
    → facts_of t ≡ facts a None false r c (is_affine_kind a) (is_affine_kind a)
expression_facts t a r c pa pn pd pr pc pb =
    same (facts_of t) (facts a None false r c (is_affine_kind a) (is_affine_kind a)) pa
    (ap (λ n. option_map size_of n) pn) (ap (λ d. holds (nat_le 1) d) pd) pr pc
    (ap (λ e. holds is_lower_bound e) pb ∙ (bare t).lower ∙ ap is_affine_kind pa)
    (ap (λ e. holds is_upper_bound e) pb ∙ (bare t).upper ∙ ap is_affine_kind pa)

pub bracket_facts : (of : Term) → facts_of (Bracket of) ≡ bracketed (facts_of of)
bracket_facts of = same (facts_of (Bracket of)) (bracketed (facts_of of)) refl refl refl refl refl (bare of).lower (bare of).upper

opposites : (c : Option Condition) → holds is_condition (option_map Opposite c) ≡ holds is_condition c
opposites None = refl
opposites (Some c) = refl

pub signed_facts : (sign : UnarySign) (of : Term) → facts_of (Signed sign of) ≡ signed sign (facts_of of)
signed_facts un.Plus of = expression_facts (Signed un.Plus of) (affinity_of (expression_of of)) false false refl refl refl refl refl refl
signed_facts un.Minus of =
    expression_facts (Signed un.Minus of) (affinity_of (expression_of of)) false false (negations (expression_of of)) refl refl refl refl refl
signed_facts un.Not of =
    expression_facts (Signed un.Not of) aff.NotAffine false (holds is_condition (condition_of of)) refl refl refl refl (opposites (condition_of of)) refl

-- ---- remainders

remainders : (x : Option Expression) (c : Option ℕ)
    → holds is_fair (option_map2 Remainder x c) ≡ (is_affine_kind (affinity_of x) && is_positive (option_map size_of c))
remainders (Some e) (Some c) = ap (λ b. b && nat_le 1 c) (sym (affine_is e)) ∙ ap (λ b. is_affine_kind (affinity_of (Some e)) && b) (size_is_some c)
remainders (Some e) None = sym (and_false (is_affine_kind (affinity_of (Some e))))
remainders None c = refl

-- ---- conditions

conjunctions : (c d : Option Condition) → holds is_condition (option_map2 Both c d) ≡ (holds is_condition c && holds is_condition d)
conjunctions (Some c) (Some d) = refl
conjunctions (Some c) None = sym (and_false (is_condition c))
conjunctions None d = refl

disjunctions : (c d : Option Condition) → holds is_condition (option_map2 Either c d) ≡ (holds is_condition c && holds is_condition d)
disjunctions (Some c) (Some d) = refl
disjunctions (Some c) None = sym (and_false (is_condition c))
disjunctions None d = refl

-- a remainder is no expression
abbrev Apart : Option Expression → Option Expression → Type 0
Apart None y = Unit {0}
Apart (Some (Remainder of divisor)) y = y ≡ None
Apart (Some e) y = ⊥

remainder_apart : (x : Option Expression) (c : Option ℕ) → Apart (option_map2 Remainder x c) None
remainder_apart (Some e) (Some c) = refl
remainder_apart (Some e) None = tt
remainder_apart None c = tt

joined_apart : (operation : Operation) (left right : Term) → Apart (remainder_of (Joined operation left right)) (expression_of (Joined operation left right))
joined_apart Plus left right = tt
joined_apart Minus left right = tt
joined_apart Times left right = tt
joined_apart Divide left right = tt
joined_apart Modulo left right = remainder_apart (expression_of left) (integer_of right)
joined_apart Conjunction left right = tt
joined_apart Disjunction left right = tt
joined_apart (Compares c) left right = tt

apart : (t : Term) → Apart (remainder_of t) (expression_of t)
apart (Integer value) = tt
apart Literal = tt
apart (Named name at subscripts) = tt
apart (Call name at arguments) = tt
apart (Bracket of) = apart of
apart (Signed sign of) = tt
apart (Joined operation left right) = joined_apart operation left right
apart (Choice test one other) = tt

abbrev is_affine_one : Option Expression → Bool
is_affine_one x = is_affine_kind (affinity_of x)

affine_sides : (c : Comparison) (x y : Option Expression) → IsBare x
    → holds is_condition (option_map2 (Compare c) x y) ≡ (is_affine_one x && is_affine_one y)
affine_sides c (Some a) (Some b) is = is.side c b ∙ ap (λ t. is_affine_one (Some a) && t) (sym (affine_is b))
affine_sides c (Some a) None is = sym (and_false (is_affine_one (Some a)))
affine_sides c None y is = refl

either_way : (b t : Bool) → t ≡ cond b t t
either_way true t = refl
either_way false t = refl

abbrev as_compared : Comparison → Bool → Bool → Bool → Bool
as_compared c fair none affine = cond (is_equality c) (cond (fair && none) true affine) affine

remainder_side : (e z g : Bool) → ((e && z) && g) ≡ cond e (cond (g && z) true false) false
remainder_side true true true = refl
remainder_side true true false = refl
remainder_side true false true = refl
remainder_side true false false = refl
remainder_side false z g = refl

no_side : (e g : Bool) → false ≡ cond e (cond (g && false) true false) false
no_side true true = refl
no_side true false = refl
no_side false g = refl

some_is_not_none : {A : Type 0} (a : A) → Some a ≡ None → ⊥
some_is_not_none a p = cc

compares : (c : Comparison) (x : Option Expression) (z : Option ℕ) (y w : Option Expression) → Apart x y → IsBare y
    → holds is_condition (first_some (option_map2 (Compare c) x (option_map Number z)) (option_map2 (Compare c) y w))
    ≡ as_compared c (holds is_fair x) (is_zero (option_map size_of z)) (is_affine_one y && is_affine_one w)
compares c None z y w p is = affine_sides c y w is ∙ either_way (is_equality c) (is_affine_one y && is_affine_one w)
compares c (Some (Remainder e d)) (Some n) None w p is =
    remainder_side (is_equality c) (nat_eq n 0) (is_affine e && nat_le 1 d)
    ∙ ap (λ t. cond (is_equality c) (cond ((is_affine e && nat_le 1 d) && t) true false) false) (sym (size_is_zero n))
compares c (Some (Remainder e d)) None None w p is = no_side (is_equality c) (is_affine e && nat_le 1 d)
compares c (Some (Remainder e d)) z (Some a) w p is = absurd (some_is_not_none a p)
compares c (Some e) z y w p is = absurd p

-- ---- two terms with a sign between

pub joined_facts : (operation : Operation) (left right : Term) → facts_of (Joined operation left right) ≡ join operation (facts_of left) (facts_of right)
joined_facts Plus left right =
    expression_facts (Joined Plus left right) _ false false (sums (expression_of left) (expression_of right)) refl refl refl refl refl
joined_facts Minus left right =
    expression_facts (Joined Minus left right) _ false false (differences (expression_of left) (expression_of right)) refl refl refl refl refl
joined_facts Times left right =
    expression_facts (Joined Times left right) _ false false (products (expression_of left) (expression_of right)) refl refl refl refl refl
joined_facts Divide left right = expression_facts (Joined Divide left right) aff.NotAffine false false refl refl refl refl refl refl
joined_facts Modulo left right =
    expression_facts (Joined Modulo left right) aff.NotAffine _ false refl refl refl (remainders (expression_of left) (integer_of right)) refl refl
joined_facts Conjunction left right =
    expression_facts (Joined Conjunction left right) aff.NotAffine false _ refl refl refl refl (conjunctions (condition_of left) (condition_of right)) refl
joined_facts Disjunction left right =
    expression_facts (Joined Disjunction left right) aff.NotAffine false _ refl refl refl refl (disjunctions (condition_of left) (condition_of right)) refl
joined_facts (Compares c) left right =
    expression_facts (Joined (Compares c) left right) aff.NotAffine false _ refl refl refl refl
    (compares c (remainder_of left) (integer_of right) (expression_of left) (expression_of right) (apart left) (bare left)) refl
