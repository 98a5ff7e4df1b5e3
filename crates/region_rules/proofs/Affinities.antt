-- Whether an expression is affine, and whether it is a bound, by its parts.
use Rattle.std.proofs.Common.{◌≡◌, refl, sym, ap, ◌∙◌, ℕ, zero, suc, List, Bool, true, false, Option, Some, None}
use Rattle.std.proofs.Math.Dec.{leb-zero, leb-suc-suc, eqb-suc-zero}
use Rattle.std.specs.Prelude.{cond, not, ◌&&◌, ◌||◌, nat_eq, nat_le}
use Rattle.c_parser.specs.declared.tree.UnarySign.{UnarySign}
use Rattle.c_parser.specs.declared.tree.UnarySign.TheVariants as un
use Rattle.clan_extract.specs.Regions.{Expression, Number, Name, Sum, Difference, Product, Negation, Comparison}
use Rattle.clan_extract.specs.Forms.{has_names, is_affine}
use Rattle.clan_extract.specs.Scops.{is_lower_bound, is_upper_bound, are_sides}
use Rattle.region_trees.specs.Terms.{Operation, Plus, Minus, Times, Divide, Modulo, Conjunction, Disjunction, Compares, Term, Integer, Literal, Named, Call, Bracket, Signed, Joined, Choice, Terms, NoTerms, More}
use Rattle.region_trees.specs.Regions.{option_map, option_map2, signed, combined, plain, expression_of}
use Rattle.region_rules.specs.declared.facts.Affinity.{Affinity}
use Rattle.region_rules.specs.declared.facts.Affinity.TheVariants as aff
use Rattle.region_rules.specs.Facts.{holds, size_of, affinity_of, is_zero, is_some_size, is_affine_kind, sum_affinity, product_affinity}

pub and_false : (b : Bool) → (b && false) ≡ false
and_false true = refl
and_false false = refl

-- ---- numbers

pub size_is_some : (n : ℕ) → nat_le 1 n ≡ is_some_size (size_of n)
size_is_some zero = refl
size_is_some (suc zero) = refl
size_is_some (suc (suc n)) = leb-suc-suc zero (suc n) ∙ leb-zero (suc n)

pub size_is_zero : (n : ℕ) → is_zero (Some (size_of n)) ≡ nat_eq n 0
size_is_zero zero = refl
size_is_zero (suc zero) = refl
size_is_zero (suc (suc n)) = sym (eqb-suc-zero (suc n))

-- ---- affinities

abbrev kind : Bool → Bool → Affinity
kind p n = cond p (cond n aff.Named aff.Constant) aff.NotAffine

kind_is : (p n : Bool) → is_affine_kind (kind p n) ≡ p
kind_is true true = refl
kind_is true false = refl
kind_is false n = refl

pub affine_is : (e : Expression) → is_affine_kind (affinity_of (Some e)) ≡ is_affine e
affine_is e = kind_is (is_affine e) (has_names e)

none_summed : (a : Affinity) → aff.NotAffine ≡ sum_affinity a aff.NotAffine
none_summed aff.NotAffine = refl
none_summed aff.Constant = refl
none_summed aff.Named = refl

none_multiplied : (a : Affinity) → aff.NotAffine ≡ product_affinity a aff.NotAffine
none_multiplied aff.NotAffine = refl
none_multiplied aff.Constant = refl
none_multiplied aff.Named = refl

sum_kind : (p n q m : Bool) → kind (p && q) (n || m) ≡ sum_affinity (kind p n) (kind q m)
sum_kind false n q m = refl
sum_kind true true true true = refl
sum_kind true true true false = refl
sum_kind true true false m = refl
sum_kind true false q m = refl

product_kind : (p n q m : Bool) → kind ((p && q) && not (n && m)) (n || m) ≡ product_affinity (kind p n) (kind q m)
product_kind false n q m = refl
product_kind true true true true = refl
product_kind true true true false = refl
product_kind true true false m = refl
product_kind true false true m = refl
product_kind true false false m = refl

pub sums : (x y : Option Expression) → affinity_of (option_map2 Sum x y) ≡ sum_affinity (affinity_of x) (affinity_of y)
sums (Some a) (Some b) = sum_kind (is_affine a) (has_names a) (is_affine b) (has_names b)
sums (Some a) None = none_summed (affinity_of (Some a))
sums None y = refl

pub differences : (x y : Option Expression) → affinity_of (option_map2 Difference x y) ≡ sum_affinity (affinity_of x) (affinity_of y)
differences (Some a) (Some b) = sum_kind (is_affine a) (has_names a) (is_affine b) (has_names b)
differences (Some a) None = none_summed (affinity_of (Some a))
differences None y = refl

pub products : (x y : Option Expression) → affinity_of (option_map2 Product x y) ≡ product_affinity (affinity_of x) (affinity_of y)
products (Some a) (Some b) = product_kind (is_affine a) (has_names a) (is_affine b) (has_names b)
products (Some a) None = none_multiplied (affinity_of (Some a))
products None y = refl

pub negations : (x : Option Expression) → affinity_of (option_map Negation x) ≡ affinity_of x
negations None = refl
negations (Some e) = refl

-- ---- expressions without bounds and remainders

abbrev pub sides : Comparison → Option Expression → Expression → Bool
sides c None b = false
sides c (Some a) b = are_sides c a b

-- such an expression is a bound, and a side of a comparison, where it is affine
pub record IsBare (x : Option Expression) : Type 0 where
  pub lower : holds is_lower_bound x ≡ is_affine_kind (affinity_of x)
  pub upper : holds is_upper_bound x ≡ is_affine_kind (affinity_of x)
  pub side : (c : Comparison) (b : Expression) → sides c x b ≡ (is_affine_kind (affinity_of x) && is_affine b)

none_bare : IsBare None
none_bare = record { lower = refl; upper = refl; side = λ c b. refl }

some_bare : (e : Expression) → is_lower_bound e ≡ is_affine e → is_upper_bound e ≡ is_affine e
    → ((c : Comparison) (b : Expression) → are_sides c e b ≡ (is_affine e && is_affine b)) → IsBare (Some e)
some_bare e p q s = record {
  lower = p ∙ sym (affine_is e);
  upper = q ∙ sym (affine_is e);
  side = λ c b. s c b ∙ ap (λ t. t && is_affine b) (sym (affine_is e));
}

sum_bare : (x y : Option Expression) → IsBare (option_map2 Sum x y)
sum_bare (Some a) (Some b) = some_bare (Sum a b) refl refl (λ c d. refl)
sum_bare (Some a) None = none_bare
sum_bare None y = none_bare

difference_bare : (x y : Option Expression) → IsBare (option_map2 Difference x y)
difference_bare (Some a) (Some b) = some_bare (Difference a b) refl refl (λ c d. refl)
difference_bare (Some a) None = none_bare
difference_bare None y = none_bare

product_bare : (x y : Option Expression) → IsBare (option_map2 Product x y)
product_bare (Some a) (Some b) = some_bare (Product a b) refl refl (λ c d. refl)
product_bare (Some a) None = none_bare
product_bare None y = none_bare

negation_bare : (x : Option Expression) → IsBare (option_map Negation x)
negation_bare (Some a) = some_bare (Negation a) refl refl (λ c d. refl)
negation_bare None = none_bare

joined_bare : (operation : Operation) (x y : Option Expression) → IsBare (combined operation x y)
joined_bare Plus x y = sum_bare x y
joined_bare Minus x y = difference_bare x y
joined_bare Times x y = product_bare x y
joined_bare Divide x y = none_bare
joined_bare Modulo x y = none_bare
joined_bare Conjunction x y = none_bare
joined_bare Disjunction x y = none_bare
joined_bare (Compares c) x y = none_bare

signed_bare : (sign : UnarySign) (x : Option Expression) → IsBare x → IsBare (signed sign x)
signed_bare un.Plus x is = is
signed_bare un.Minus x is = negation_bare x
signed_bare un.Not x is = none_bare

named_bare : (name : List ℕ) (subscripts : Terms) → IsBare (plain name subscripts)
named_bare name NoTerms = some_bare (Name name) refl refl (λ c d. refl)
named_bare name (More at first rest) = none_bare

pub bare : (t : Term) → IsBare (expression_of t)
bare (Integer value) = some_bare (Number value) refl refl (λ c d. refl)
bare Literal = none_bare
bare (Named name at subscripts) = named_bare name subscripts
bare (Call name at arguments) = none_bare
bare (Bracket of) = bare of
bare (Signed sign of) = signed_bare sign (expression_of of) (bare of)
bare (Joined operation left right) = joined_bare operation (expression_of left) (expression_of right)
bare (Choice test one other) = none_bare
