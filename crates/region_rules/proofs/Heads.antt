-- The rules of starts, bounds, steps and conditions, by the facts of their terms.
use Rattle.std.proofs.Common.{◌≡◌, refl, sym, ap, ◌∙◌, ℕ, zero, suc, List, [], ◌∷◌, Bool, true, false, Option, Some, None}
use Rattle.std.proofs.Math.Dec.{eqb-suc-zero, eqb-suc-suc}
use Rattle.std.specs.Prelude.{cond, ◌&&◌, ◌||◌, not, ℤ, unsigned_abs, nat_eq, bytes_eq, codes}
use Rattle.clan_extract.specs.Regions.{Expression, Maximum, Minimum, Ceiling, Floor, Comparison}
use Rattle.clan_extract.specs.Forms.{is_affine}
use Rattle.clan_extract.specs.Scops.{is_lower_bound, is_upper_bound}
use Rattle.region_trees.specs.Terms.{Term, Integer, Literal, Named, Call, Bracket, Signed, Joined, Choice, Terms, NoTerms, More}
use Rattle.region_trees.specs.Regions.{option_map2, expression_of, of_two, divisor_in, quotient, bound_of, bounds_of, is_downward, is_start, is_bound}
use Rattle.region_rules.specs.declared.facts.Size.{Size}
use Rattle.region_rules.specs.declared.facts.Size.TheVariants as size
use Rattle.region_rules.specs.Facts.{holds, size_of, affinity_of, facts_of, is_affine_kind}
use Rattle.region_rules.specs.Faults.{is_start_by, is_bound_by}
use Rattle.region_rules.proofs.Affinities.{affine_is}

pub affine_holds : (x : Option Expression) → holds is_affine x ≡ is_affine_kind (affinity_of x)
affine_holds None = refl
affine_holds (Some e) = sym (affine_is e)

-- ---- bounds that are no expressions are not affine

of_two_none : (make : Expression → Expression → Expression) → ((a b : Expression) → is_affine (make a b) ≡ false)
    → (xs : List (Option Expression)) → holds is_affine (of_two make xs) ≡ false
of_two_none make is [] = refl
of_two_none make is (a ∷ []) = refl
of_two_none make is (Some a ∷ Some b ∷ []) = is a b
of_two_none make is (Some a ∷ None ∷ []) = refl
of_two_none make is (None ∷ b ∷ []) = refl
of_two_none make is (a ∷ b ∷ c ∷ more) = refl

map2_none : (make : Expression → ℕ → Expression) → ((a : Expression) (d : ℕ) → is_affine (make a d) ≡ false)
    → (x : Option Expression) (d : Option ℕ) → holds is_affine (option_map2 make x d) ≡ false
map2_none make is (Some e) (Some d) = is e d
map2_none make is (Some e) None = refl
map2_none make is None d = refl

quotient_none : (make : Expression → ℕ → Expression) → ((a : Expression) (d : ℕ) → is_affine (make a d) ≡ false)
    → (ts : Terms) → holds is_affine (quotient make ts) ≡ false
quotient_none make is NoTerms = refl
quotient_none make is (More at first rest) = map2_none make is (expression_of first) (divisor_in rest)

four_none : (p q r s : Bool) (a b c d : Option Expression) → holds is_affine a ≡ false → holds is_affine b ≡ false → holds is_affine c ≡ false → holds is_affine d ≡ false
    → holds is_affine (cond p a (cond q b (cond r c (cond s d None)))) ≡ false
four_none true q r s a b c d pa pb pc pd = pa
four_none false true r s a b c d pa pb pc pd = pb
four_none false false true s a b c d pa pb pc pd = pc
four_none false false false true a b c d pa pb pc pd = pd
four_none false false false false a b c d pa pb pc pd = refl

affine_bound : (t : Term) → holds is_affine (bound_of t) ≡ is_affine_kind (affinity_of (expression_of t))
affine_bound (Integer value) = affine_holds (expression_of (Integer value))
affine_bound Literal = refl
affine_bound (Named name at subscripts) = affine_holds (expression_of (Named name at subscripts))
affine_bound (Call name at arguments) =
    four_none (bytes_eq name (codes "max")) (bytes_eq name (codes "min")) (bytes_eq name (codes "ceild")) (bytes_eq name (codes "floord")) _ _ _ _
    (of_two_none Maximum (λ a b. refl) (bounds_of arguments)) (of_two_none Minimum (λ a b. refl) (bounds_of arguments))
    (quotient_none Ceiling (λ a d. refl) arguments) (quotient_none Floor (λ a d. refl) arguments)
affine_bound (Bracket of) = affine_holds (expression_of of)
affine_bound (Signed sign of) = affine_holds (expression_of (Signed sign of))
affine_bound (Joined operation left right) = affine_holds (expression_of (Joined operation left right))
affine_bound (Choice test one other) = refl

-- ---- starts and bounds

same_false : (b : Bool) → false ≡ cond b false false
same_false true = refl
same_false false = refl

bounds_by : (c : Comparison) (x : Option Expression) → holds (is_bound c) x ≡ cond (is_downward c) (holds is_lower_bound x) (holds is_upper_bound x)
bounds_by c None = same_false (is_downward c)
bounds_by c (Some e) = refl

pub bounds : (c : Comparison) (t : Term) → holds (is_bound c) (bound_of t) ≡ is_bound_by c (facts_of t)
bounds c t = bounds_by c (bound_of t)

-- what a start has to be beside a bound, with a step of this size
abbrev or_short : Size → Bool → Bool
or_short size.Zero affine = true
or_short size.One affine = true
or_short size.Larger affine = affine

sizes_are_short : (n : ℕ) (affine : Bool) → ((nat_eq n 0 || nat_eq n 1) || affine) ≡ or_short (size_of n) affine
sizes_are_short zero affine = refl
sizes_are_short (suc zero) affine = refl
sizes_are_short (suc (suc n)) affine =
    ap (λ b. (b || nat_eq (suc (suc n)) 1) || affine) (eqb-suc-zero (suc n))
    ∙ ap (λ b. b || affine) (eqb-suc-suc (suc n) 0 ∙ eqb-suc-zero n)

starts_by : (c : Comparison) (z : ℤ) (x : Option Expression)
    → holds (is_start c z) x ≡ (cond (is_downward c) (holds is_upper_bound x) (holds is_lower_bound x) && or_short (size_of (unsigned_abs z)) (holds is_affine x))
starts_by c z None = ap (λ b. b && or_short (size_of (unsigned_abs z)) false) (same_false (is_downward c))
starts_by c z (Some e) = ap (λ b. cond (is_downward c) (is_upper_bound e) (is_lower_bound e) && b) (sizes_are_short (unsigned_abs z) (is_affine e))

and_true : (b : Bool) → (b && true) ≡ b
and_true true = refl
and_true false = refl

sized : (c : Comparison) (s : Size) (t : Term)
    → (cond (is_downward c) (holds is_upper_bound (bound_of t)) (holds is_lower_bound (bound_of t)) && or_short s (is_affine_kind (affinity_of (expression_of t))))
    ≡ is_start_by c s (facts_of t)
sized c size.Zero t = and_true _
sized c size.One t = and_true _
sized c size.Larger t = refl

pub starts : (c : Comparison) (z : ℤ) (t : Term) → holds (is_start c z) (bound_of t) ≡ is_start_by c (size_of (unsigned_abs z)) (facts_of t)
starts c z t =
    starts_by c z (bound_of t)
    ∙ ap (λ b. cond (is_downward c) (holds is_upper_bound (bound_of t)) (holds is_lower_bound (bound_of t)) && or_short (size_of (unsigned_abs z)) b) (affine_bound t)
    ∙ sized c (size_of (unsigned_abs z)) t
