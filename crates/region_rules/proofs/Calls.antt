-- What a call has by its name and its arguments.
use Rattle.std.proofs.Common.{◌≡◌, refl, sym, ap, ◌∙◌, ℕ, List, [], ◌∷◌, map, Bool, true, false, Option, Some, None}
use Rattle.std.specs.Prelude.{cond, ◌&&◌, nat_le, bytes_eq, codes}
use Rattle.clan_extract.specs.Regions.{Expression, Maximum, Minimum, Ceiling, Floor}
use Rattle.clan_extract.specs.Forms.{is_affine}
use Rattle.clan_extract.specs.Scops.{is_lower_bound, is_upper_bound}
use Rattle.region_trees.specs.Terms.{Term, Call, NoTerms, More, Located}
use Rattle.region_trees.specs.Layers.{terms_by}
use Rattle.region_trees.specs.Regions.{option_map2, expression_of, divisor_of, quotient, bound_of}
use Rattle.region_rules.specs.declared.facts.Facts.{Facts}
use Rattle.region_rules.specs.declared.facts.Arguments.{Arguments}
use Rattle.region_rules.specs.declared.facts.Arguments.TheVariants as arg
use Rattle.region_rules.specs.Facts as spec
use Rattle.region_rules.specs.Facts.{holds, affinity_of, facts_of, is_affine_kind, no_facts, bound, maximum, minimum, called, with_argument, called_with}
use Rattle.region_rules.proofs.Affinities.{and_false, affine_is}
use Rattle.region_rules.proofs.Joins.{same}

maximum_lower : (x y : Option Expression) → holds is_lower_bound (option_map2 Maximum x y) ≡ (holds is_lower_bound x && holds is_lower_bound y)
maximum_lower (Some a) (Some b) = refl
maximum_lower (Some a) None = sym (and_false (is_lower_bound a))
maximum_lower None y = refl

maximum_upper : (x y : Option Expression) → holds is_upper_bound (option_map2 Maximum x y) ≡ false
maximum_upper (Some a) (Some b) = refl
maximum_upper (Some a) None = refl
maximum_upper None y = refl

minimum_upper : (x y : Option Expression) → holds is_upper_bound (option_map2 Minimum x y) ≡ (holds is_upper_bound x && holds is_upper_bound y)
minimum_upper (Some a) (Some b) = refl
minimum_upper (Some a) None = sym (and_false (is_upper_bound a))
minimum_upper None y = refl

minimum_lower : (x y : Option Expression) → holds is_lower_bound (option_map2 Minimum x y) ≡ false
minimum_lower (Some a) (Some b) = refl
minimum_lower (Some a) None = refl
minimum_lower None y = refl

abbrev is_quotient : Option Expression → Option ℕ → Bool
is_quotient x d = is_affine_kind (affinity_of x) && holds (nat_le 1) d

-- a bound that holds where the dividend is affine and the divisor at least 1
quotient_by : (make : Expression → ℕ → Expression) (test : Expression → Bool) → ((e : Expression) (d : ℕ) → test (make e d) ≡ (is_affine e && nat_le 1 d))
    → (x : Option Expression) (d : Option ℕ) → holds test (option_map2 make x d) ≡ is_quotient x d
quotient_by make test is (Some e) (Some d) = is e d ∙ ap (λ b. b && nat_le 1 d) (sym (affine_is e))
quotient_by make test is (Some e) None = sym (and_false (is_affine_kind (affinity_of (Some e))))
quotient_by make test is None d = refl

-- of a bound that is no expression
abbrev of_bound : Option Expression → Facts
of_bound x = bound (holds is_lower_bound x) (holds is_upper_bound x)

bound_is : (x : Option Expression) (lower upper : Bool) → holds is_lower_bound x ≡ lower → holds is_upper_bound x ≡ upper → of_bound x ≡ bound lower upper
bound_is x lower upper p q = same (of_bound x) (bound lower upper) refl refl refl refl refl p q

abbrev quotients : Term → Term → Facts
quotients x y = spec.quotient (facts_of x) (facts_of y)

ceilings : (x y : Term) → of_bound (option_map2 Ceiling (expression_of x) (divisor_of y)) ≡ quotients x y
ceilings x y =
    bound_is (option_map2 Ceiling (expression_of x) (divisor_of y)) (is_quotient (expression_of x) (divisor_of y)) (is_quotient (expression_of x) (divisor_of y))
    (quotient_by Ceiling is_lower_bound (λ e d. refl) (expression_of x) (divisor_of y))
    (quotient_by Ceiling is_upper_bound (λ e d. refl) (expression_of x) (divisor_of y))

floors : (x y : Term) → of_bound (option_map2 Floor (expression_of x) (divisor_of y)) ≡ quotients x y
floors x y =
    bound_is (option_map2 Floor (expression_of x) (divisor_of y)) (is_quotient (expression_of x) (divisor_of y)) (is_quotient (expression_of x) (divisor_of y))
    (quotient_by Floor is_lower_bound (λ e d. refl) (expression_of x) (divisor_of y))
    (quotient_by Floor is_upper_bound (λ e d. refl) (expression_of x) (divisor_of y))

-- one of four bounds, by tests of the name
abbrev of_four : {A : Type 0} → Bool → Bool → Bool → Bool → A → A → A → A → A → A
of_four p q r s a b c d e = cond p a (cond q b (cond r c (cond s d e)))

four : (p q r s : Bool) (a b c d e : Option Expression) (A B C D E : Facts) → of_bound a ≡ A → of_bound b ≡ B → of_bound c ≡ C → of_bound d ≡ D → of_bound e ≡ E
    → of_bound (of_four p q r s a b c d e) ≡ of_four p q r s A B C D E
four true q r s a b c d e A B C D E pa pb pc pd pe = pa
four false true r s a b c d e A B C D E pa pb pc pd pe = pb
four false false true s a b c d e A B C D E pa pb pc pd pe = pc
four false false false true a b c d e A B C D E pa pb pc pd pe = pd
four false false false false a b c d e A B C D E pa pb pc pd pe = pe

pub two_facts : (name : List ℕ) (at at_left at_right : ℕ) (left right : Term)
    → facts_of (Call name at (More at_left left (More at_right right NoTerms))) ≡ called name (facts_of left) (facts_of right)
two_facts name at at_left at_right left right =
    let greater = option_map2 Maximum (bound_of left) (bound_of right) in
    let less = option_map2 Minimum (bound_of left) (bound_of right) in
    four (bytes_eq name (codes "max")) (bytes_eq name (codes "min")) (bytes_eq name (codes "ceild")) (bytes_eq name (codes "floord"))
    greater less (option_map2 Ceiling (expression_of left) (divisor_of right)) (option_map2 Floor (expression_of left) (divisor_of right)) None
    (maximum (facts_of left) (facts_of right)) (minimum (facts_of left) (facts_of right)) (quotients left right) (quotients left right) no_facts
    (bound_is greater (holds is_lower_bound (bound_of left) && holds is_lower_bound (bound_of right)) false
    (maximum_lower (bound_of left) (bound_of right)) (maximum_upper (bound_of left) (bound_of right)))
    (bound_is less false (holds is_upper_bound (bound_of left) && holds is_upper_bound (bound_of right))
    (minimum_lower (bound_of left) (bound_of right)) (minimum_upper (bound_of left) (bound_of right)))
    (ceilings left right) (floors left right) refl

-- with other than two arguments a call is no bound
no_bound : (make : Expression → ℕ → Expression) (x : Option Expression) → option_map2 make x None ≡ None
no_bound make (Some e) = refl
no_bound make None = refl

none_facts : (p q r s : Bool) (a b c d : Option Expression) → a ≡ None → b ≡ None → c ≡ None → d ≡ None → of_bound (of_four p q r s a b c d None) ≡ no_facts
none_facts true q r s a b c d pa pb pc pd = ap of_bound pa
none_facts false true r s a b c d pa pb pc pd = ap of_bound pb
none_facts false false true s a b c d pa pb pc pd = ap of_bound pc
none_facts false false false true a b c d pa pb pc pd = ap of_bound pd
none_facts false false false false a b c d pa pb pc pd = refl

-- of the arguments of a call
abbrev pub call_facts : List ℕ → List Facts → Facts
call_facts name [] = no_facts
call_facts name (left ∷ []) = no_facts
call_facts name (left ∷ right ∷ []) = called name left right
call_facts name (left ∷ right ∷ other ∷ more) = no_facts

pub call_is : {X : Type 0} (says : X → Located) (name : List ℕ) (at : ℕ) (xs : List X)
    → facts_of (Call name at (terms_by says xs)) ≡ call_facts name (map (λ x. facts_of (says x).term) xs)
call_is says name at [] =
    none_facts (bytes_eq name (codes "max")) (bytes_eq name (codes "min")) (bytes_eq name (codes "ceild")) (bytes_eq name (codes "floord")) None None None None refl refl refl refl
call_is says name at (x ∷ []) =
    none_facts (bytes_eq name (codes "max")) (bytes_eq name (codes "min")) (bytes_eq name (codes "ceild")) (bytes_eq name (codes "floord"))
    None None (option_map2 Ceiling (expression_of (says x).term) None) (option_map2 Floor (expression_of (says x).term) None) refl refl
    (no_bound Ceiling (expression_of (says x).term)) (no_bound Floor (expression_of (says x).term))
call_is says name at (x ∷ y ∷ []) = two_facts name at (says x).at (says y).at (says x).term (says y).term
call_is says name at (x ∷ y ∷ z ∷ more) =
    none_facts (bytes_eq name (codes "max")) (bytes_eq name (codes "min")) (bytes_eq name (codes "ceild")) (bytes_eq name (codes "floord"))
    None None (option_map2 Ceiling (expression_of (says x).term) None) (option_map2 Floor (expression_of (says x).term) None) refl refl
    (no_bound Ceiling (expression_of (says x).term)) (no_bound Floor (expression_of (says x).term))

-- the arguments from the left, behind those that were seen
abbrev pub collected : {X : Type 0} → (X → Facts) → Arguments → List X → Arguments
collected says seen [] = seen
collected says seen (x ∷ xs) = collected says (with_argument seen (says x)) xs

more_collected : {X : Type 0} (says : X → Facts) (xs : List X) → collected says arg.More xs ≡ arg.More
more_collected says [] = refl
more_collected says (x ∷ xs) = more_collected says xs

all_collected : {X : Type 0} (name : List ℕ) (says : X → Facts) (xs : List X) → call_facts name (map says xs) ≡ called_with name (collected says arg.None xs)
all_collected name says [] = refl
all_collected name says (x ∷ []) = refl
all_collected name says (x ∷ y ∷ []) = refl
all_collected name says (x ∷ y ∷ z ∷ more) = sym (ap (called_with name) (more_collected says more))

pub by_call : {X : Type 0} (says : X → Located) (name : List ℕ) (at : ℕ) (xs : List X) (f : Facts)
    → f ≡ called_with name (collected (λ x. facts_of (says x).term) arg.None xs) → f ≡ facts_of (Call name at (terms_by says xs))
by_call says name at xs f e = e ∙ sym (call_is says name at xs ∙ all_collected name (λ x. facts_of (says x).term) xs)
