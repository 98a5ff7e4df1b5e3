-- The layer of a loop, by its bounds and its stride.
use Rattle.std.proofs.Common.{◌≡◌, ◌∙◌, ℕ, List, [], ◌∷◌, Bool, true, false, cond, Option, Some, None, refl, ap, sym, subst, arith, inl, inr}
use Rattle.std.specs.Prelude.{◌^◌, ◌&&◌, ◌||◌, ℤ, nat_eq, nat_lt, unsigned_abs, bytes_eq, codes}
use Rattle.std.proofs.lemmas.Bool.{ltb-false}
use Rattle.std.proofs.lemmas.Bool.Decides.{eqb_tells}
use Rattle.std.proofs.lemmas.Int.{ints}
use Rattle.clan_extract.specs.Regions.{Comparison, Expression, IsLess, IsLessOrEqual, IsGreater, IsGreaterOrEqual, IsEqual, IsUnequal, Maximum, Minimum, Ceiling, Floor}
use Rattle.clan_extract.specs.Forms.{is_affine}
use Rattle.clan_extract.specs.Placements.{Head}
use Rattle.clan_extract.specs.Scops.{is_equality, is_lower_bound, is_upper_bound}
use Rattle.clan_rows.specs.declared.loops.Stride.{Stride}
use Rattle.clan_rows.specs.declared.bounds.Side.{Side}
use Rattle.clan_rows.specs.Bounds.{BoundsData, bound_side, is_strict, loop_bounds, no_bounds, start_side, stride_layer, unit_layer, with_bound}
use Rattle.clan_rows.specs.Fitting.{checked_form, in_range}
use Rattle.clan_rows.specs.Layers.{LayerData, loop_layer}
use Rattle.clan_rows.specs.Pieces.{loop_of}
use Rattle.clan_rows.specs.Contents.{made}
use Rattle.clan_rows.proofs.BoundLaws.{loop_is}
use Rattle.clan_rows.proofs.LayerLaws.{false_is_not_true}
use Rattle.region_trees.specs.Regions.{bound_of, bounds_of, divisor_in, expression_of, is_bound, is_short, is_start, is_step, of_two, option_map2, quotient}
use Rattle.region_trees.specs.Terms.{Located, Term, Integer, Literal, Named, Call, Bracket, Signed, Joined, Choice, Terms, NoTerms, More}
use Rattle.region_forms.specs.Bounds.{IsBound, IsLoop, IsStride, bounds_on, is_unit}
use Rattle.region_forms.specs.Evaluations.{EvaluationData, IsValue}
use Rattle.region_forms.proofs.BoundTerms.{both_hold}
use Rattle.region_forms.proofs.Values.{made_of}

-- ---- heads within the rules

start_bounds : (comparison : Comparison) (step : ℤ) (e : Expression) → is_start comparison step e ≡ true → bounds_on (start_side comparison) e ≡ true
start_bounds IsLess step e h = (both_hold (is_lower_bound e) (is_short step || is_affine e) h).0
start_bounds IsLessOrEqual step e h = (both_hold (is_lower_bound e) (is_short step || is_affine e) h).0
start_bounds IsGreater step e h = (both_hold (is_upper_bound e) (is_short step || is_affine e) h).0
start_bounds IsGreaterOrEqual step e h = (both_hold (is_upper_bound e) (is_short step || is_affine e) h).0
start_bounds IsEqual step e h = (both_hold (is_lower_bound e) (is_short step || is_affine e) h).0
start_bounds IsUnequal step e h = (both_hold (is_lower_bound e) (is_short step || is_affine e) h).0

end_bounds : (comparison : Comparison) (e : Expression) → is_bound comparison e ≡ true → bounds_on (bound_side comparison) e ≡ true
end_bounds IsLess e h = h
end_bounds IsLessOrEqual e h = h
end_bounds IsGreater e h = h
end_bounds IsGreaterOrEqual e h = h
end_bounds IsEqual e h = h
end_bounds IsUnequal e h = h

no_equality : (comparison : Comparison) (step : ℤ) → is_step comparison step ≡ true → is_equality comparison ≡ false
no_equality IsLess step h = refl
no_equality IsLessOrEqual step h = refl
no_equality IsGreater step h = refl
no_equality IsGreaterOrEqual step h = refl
no_equality IsEqual step h = absurd (false_is_not_true h)
no_equality IsUnequal step h = absurd (false_is_not_true h)

-- a step within the rules is not 0
moves : (comparison : Comparison) (step : ℤ) → is_step comparison step ≡ true → unsigned_abs step ≡ 0 → ⊥
moves IsLess step h e = omega (arith, ints, h, e)
moves IsLessOrEqual step h e = omega (arith, ints, h, e)
moves IsGreater step h e = omega (arith, ints, h, e)
moves IsGreaterOrEqual step h e = omega (arith, ints, h, e)
moves IsEqual step h e = absurd (false_is_not_true h)
moves IsUnequal step h e = absurd (false_is_not_true h)

not_zero : (comparison : Comparison) (step : ℤ) → is_step comparison step ≡ true → nat_eq (unsigned_abs step) 0 ≡ false
not_zero comparison step h = elim (eqb_tells (unsigned_abs step) 0) [
  | inl e ↦ absurd (moves comparison step h e.1)
  | inr e ↦ e.0
]

last_of : (a b c d : Bool) → b ≡ false → c ≡ false → (a && ((b || c) || d)) ≡ true → d ≡ true
last_of true false false d p q h = h
last_of true false true d p q h = absurd (false_is_not_true (sym q))
last_of true true c d p q h = absurd (false_is_not_true (sym p))
last_of false b c d p q h = absurd (false_is_not_true h)

-- with a step of at least 2 the start is affine
affine_start : (comparison : Comparison) (step : ℤ) (e : Expression) → is_start comparison step e ≡ true → is_step comparison step ≡ true
    → nat_eq (unsigned_abs step) 1 ≡ false → is_affine e ≡ true
affine_start comparison step e h moving long =
    last_of _ (nat_eq (unsigned_abs step) 0) (nat_eq (unsigned_abs step) 1) (is_affine e) (not_zero comparison step moving) long h

-- ---- steps

unit_by : (z : ℤ) (b : Bool) → nat_lt (unsigned_abs z) (2 ^ 127) ≡ b → is_unit (cond b (Some z) None) ≡ nat_eq (unsigned_abs z) 1
unit_by z true e = refl
unit_by z false e = elim (eqb_tells (unsigned_abs z) 1) [
  | inl h ↦ absurd (let large = ltb-false (unsigned_abs z) (2 ^ 127) e in let one = h.1 in omega (arith, large, one))
  | inr h ↦ sym h.0
]

unit_is : (z : ℤ) → is_unit (in_range z) ≡ nat_eq (unsigned_abs z) 1
unit_is z = unit_by z (nat_lt (unsigned_abs z) (2 ^ 127)) refl

-- ---- strides

-- what is no expression of a value
abbrev NotAffine : Option Expression → Type 0
NotAffine bound = (e : Expression) → bound ≡ Some e → is_affine e ≡ false

two_not : (make : Expression → Expression → Expression) (a b : Option Expression) → ((l r : Expression) → is_affine (make l r) ≡ false)
    → NotAffine (option_map2 make a b)
two_not make a b h e is = let m = made_of make a b e is in subst (λ x. is_affine x ≡ false) (sym m.made) (h m.left m.right)

of_two_not : (make : Expression → Expression → Expression) (es : List (Option Expression)) → ((l r : Expression) → is_affine (make l r) ≡ false)
    → NotAffine (of_two make es)
of_two_not make [] h e is = absurd (cc)
of_two_not make (a ∷ []) h e is = absurd (cc)
of_two_not make (a ∷ (b ∷ [])) h e is = two_not make a b h e is
of_two_not make (a ∷ (b ∷ (c ∷ es))) h e is = absurd (cc)

quotient_not : (make : Expression → ℕ → Expression) (ts : Terms) → ((of : Expression) (d : ℕ) → is_affine (make of d) ≡ false) → NotAffine (quotient make ts)
quotient_not make NoTerms h e is = absurd (cc)
quotient_not make (More at first rest) h e is =
    let m = made_of make (expression_of first) (divisor_in rest) e is in subst (λ x. is_affine x ≡ false) (sym m.made) (h m.left m.right)

none_of : (a b c d : Bool) (w x y z : Option Expression) → NotAffine w → NotAffine x → NotAffine y → NotAffine z
    → NotAffine (cond a w (cond b x (cond c y (cond d z None))))
none_of true b c d w x y z p q r s = p
none_of false true c d w x y z p q r s = q
none_of false false true d w x y z p q r s = r
none_of false false false true w x y z p q r s = s
none_of false false false false w x y z p q r s = λ e is. absurd (cc)

call_not : (name : List ℕ) (at : ℕ) (arguments : Terms) → NotAffine (bound_of (Call name at arguments))
call_not name at arguments =
    none_of (bytes_eq name (codes "max")) (bytes_eq name (codes "min")) (bytes_eq name (codes "ceild")) (bytes_eq name (codes "floord"))
    (of_two Maximum (bounds_of arguments)) (of_two Minimum (bounds_of arguments)) (quotient Ceiling arguments) (quotient Floor arguments)
    (of_two_not Maximum (bounds_of arguments) (λ l r. refl)) (of_two_not Minimum (bounds_of arguments) (λ l r. refl))
    (quotient_not Ceiling arguments (λ of d. refl)) (quotient_not Floor arguments (λ of d. refl))

-- an affine bound is the expression of a value
pub affine_value : (t : Term) (e : Expression) → bound_of t ≡ Some e → is_affine e ≡ true → expression_of t ≡ Some e
affine_value (Integer value) e is affine = is
affine_value Literal e is affine = is
affine_value (Named name at subscripts) e is affine = is
affine_value (Call name at arguments) e is affine = absurd (false_is_not_true (sym (call_not name at arguments e is) ∙ affine))
affine_value (Bracket of) e is affine = is
affine_value (Signed sign of) e is affine = is
affine_value (Joined operation left right) e is affine = is
affine_value (Choice test one other) e is affine = is

pub no_stride : (parameters loops : List (List ℕ)) (side : Side) (start : Term) (step : Option ℤ) → is_unit step ≡ true → IsStride parameters loops side start step None
no_stride parameters loops side start step one e is affine b =
    ap (λ t. cond t (unit_layer b) (stride_layer b side (checked_form parameters loops e) step)) (sym one)

pub long_stride : (parameters loops : List (List ℕ)) (side : Side) (start : Term) (step : Option ℤ) (v : EvaluationData) (s : Stride) → is_unit step ≡ false
    → IsValue parameters loops start v → s.side ≡ side → made s.start ≡ v.form → s.step ≡ step → IsStride parameters loops side start step (Some s)
long_stride parameters loops side start step v s long p side_is start_is step_is e is affine b =
    let form = (p.expression e (affine_value start e is (affine long))).form_is in
    ap (λ x. stride_layer b x (made s.start) s.step) side_is
    ∙ ap (λ f. stride_layer b side f s.step) (start_is ∙ form)
    ∙ ap (stride_layer b side (checked_form parameters loops e)) step_is
    ∙ ap (λ t. cond t (unit_layer b) (stride_layer b side (checked_form parameters loops e) step)) (sym long)

-- ---- loops

-- a loop by the bounds behind its start, all bounds, and its stride
pub loop_made : (parameters loops : List (List ℕ)) (name : List ℕ) (start : Located) (comparison : Comparison) (bound : Located) (step : ℤ)
    (first all : BoundsData) (stride : Option Stride) (l : LayerData)
    → IsBound parameters loops (start_side comparison) false (bound_of start.term) no_bounds first
    → IsBound parameters loops (bound_side comparison) (is_strict comparison) (bound_of bound.term) first all
    → IsStride parameters loops (start_side comparison) start.term (in_range step) stride
    → l ≡ loop_of all stride → IsLoop parameters loops name start comparison bound step l
loop_made parameters loops name start comparison bound step first all stride l p q s made_by h head =
    let here : Head = record { name = h.name; start = h.start; comparison = comparison; bound = h.bound; step = step } in
    let same : here ≡ h =
    ap (λ c. record { name = h.name; start = h.start; comparison = c; bound = h.bound; step = step }) (sym head.comparison_is)
    ∙ ap (λ z. record { name = h.name; start = h.start; comparison = h.comparison; bound = h.bound; step = z }) (sym head.step_is) in
    let one = p h.start head.start_is (start_bounds comparison step h.start head.starts) in
    let both : all ≡ loop_bounds parameters loops here =
    q h.bound head.bound_is (end_bounds comparison h.bound head.bounds)
    ∙ ap (with_bound parameters loops (bound_side comparison) (is_strict comparison) h.bound) one in
    let unit = unit_is step in
    let affine : is_unit (in_range step) ≡ false → is_affine h.start ≡ true =
    λ long. affine_start comparison step h.start head.starts head.steps (sym unit ∙ long) in
    let form = checked_form parameters loops h.start in
    made_by ∙ s h.start head.start_is affine all
    ∙ ap (λ t. cond t (unit_layer all) (stride_layer all (start_side comparison) form (in_range step))) unit
    ∙ ap (λ b. cond (nat_eq (unsigned_abs step) 1) (unit_layer b) (stride_layer b (start_side comparison) form (in_range step))) both
    ∙ sym (loop_is parameters loops here (no_equality comparison step head.steps))
    ∙ ap (loop_layer parameters loops) same
