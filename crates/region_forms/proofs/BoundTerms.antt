-- The rows of bounds, by those of their parts.
use Rattle.std.proofs.Common.{◌≡◌, ◌∙◌, ℕ, List, [], ◌∷◌, length, Bool, true, false, cond, Option, Some, None, refl, ap, sym, subst, arith, get_or}
use Rattle.std.specs.Prelude.{◌&&◌, bytes_eq, codes}
use Rattle.c_parser.specs.declared.tree.UnarySign.{UnarySign}
use Rattle.c_parser.specs.declared.tree.UnarySign.TheVariants as un
use Rattle.clan_extract.specs.Regions.{Expression, Number, Name, Sum, Difference, Product, Negation, Maximum, Minimum, Ceiling, Floor, Remainder}
use Rattle.clan_extract.specs.Forms.{is_affine}
use Rattle.clan_extract.specs.Scops.{is_lower_bound, is_upper_bound}
use Rattle.clan_rows.specs.declared.bounds.Side.{Side}
use Rattle.clan_rows.specs.declared.bounds.Side.TheVariants.{Lower, Upper}
use Rattle.clan_rows.specs.Fitting.{checked_form}
use Rattle.clan_rows.specs.Bounds.{BoundsData, with_bound, with_ceiling, with_floor, with_value}
use Rattle.clan_rows.proofs.BoundLaws.{ceiling_bound, floor_bound, maximum_bound, minimum_bound, value_bound}
use Rattle.clan_rows.proofs.LayerLaws.{false_is_not_true}
use Rattle.region_trees.specs.Terms.{Located, Operation, Plus, Minus, Times, Divide, Modulo, Conjunction, Disjunction, Compares, Term, Integer, Literal, Named, Call, Bracket, Signed, Joined, Choice, Terms, NoTerms, More}
use Rattle.region_trees.specs.Regions.{bound_of, combined, divisor_of, expression_of, integer_of, option_map2, plain, signed}
use Rattle.region_trees.specs.Layers.{terms_by}
use Rattle.region_forms.specs.declared.bounds.Operator.{Operator}
use Rattle.region_forms.specs.declared.bounds.Operator.TheVariants as op
use Rattle.region_forms.specs.Evaluations.{EvaluationData, IsValue}
use Rattle.region_forms.specs.Bounds.{IsBound, bounds_on, operator_named}
use Rattle.region_forms.proofs.Values.{made_from, made_of}

pub both_hold : (a b : Bool) → (a && b) ≡ true → (a ≡ true) × (b ≡ true)
both_hold true b e = (refl, e)
both_hold false b e = absurd (false_is_not_true e)

-- of what is no bound nothing is asked
pub bound_nothing : (parameters loops : List (List ℕ)) (side : Side) (strict : Bool) (bound : Option Expression) (a b : BoundsData) → bound ≡ None
    → IsBound parameters loops side strict bound a b
bound_nothing parameters loops side strict bound a b none e is rules = absurd (cc)

-- ---- values

-- neither an operator of bounds nor a remainder
abbrev is_simple : Expression → Bool
is_simple (Number value) = true
is_simple (Name name) = true
is_simple (Sum left right) = true
is_simple (Difference left right) = true
is_simple (Product left right) = true
is_simple (Negation of) = true
is_simple e = false

simple_plain : (name : List ℕ) (ts : Terms) (e : Expression) → plain name ts ≡ Some e → is_simple e ≡ true
simple_plain name NoTerms e is = let same : Name name ≡ e = cc in subst (λ x. is_simple x ≡ true) same refl
simple_plain name (More at first rest) e is = absurd (cc)

simple_signed : (sign : UnarySign) (x : Option Expression) (e : Expression) → ((y : Expression) → x ≡ Some y → is_simple y ≡ true) → signed sign x ≡ Some e
    → is_simple e ≡ true
simple_signed un.Plus x e h is = h e is
simple_signed un.Minus x e h is = subst (λ y. is_simple y ≡ true) (sym (made_from Negation x e is).made) refl
simple_signed un.Not x e h is = absurd (cc)

simple_combined : (operation : Operation) (x y : Option Expression) (e : Expression) → combined operation x y ≡ Some e → is_simple e ≡ true
simple_combined Plus x y e is = subst (λ y. is_simple y ≡ true) (sym (made_of Sum x y e is).made) refl
simple_combined Minus x y e is = subst (λ y. is_simple y ≡ true) (sym (made_of Difference x y e is).made) refl
simple_combined Times x y e is = subst (λ y. is_simple y ≡ true) (sym (made_of Product x y e is).made) refl
simple_combined Divide x y e is = absurd (cc)
simple_combined Modulo x y e is = absurd (cc)
simple_combined Conjunction x y e is = absurd (cc)
simple_combined Disjunction x y e is = absurd (cc)
simple_combined (Compares comparison) x y e is = absurd (cc)

simple : (t : Term) (e : Expression) → expression_of t ≡ Some e → is_simple e ≡ true
simple (Integer value) e is = let same : Number value ≡ e = cc in subst (λ x. is_simple x ≡ true) same refl
simple Literal e is = absurd (cc)
simple (Named name at subscripts) e is = simple_plain name subscripts e is
simple (Call name at arguments) e is = absurd (cc)
simple (Bracket of) e is = simple of e is
simple (Signed sign of) e is = simple_signed sign (expression_of of) e (simple of) is
simple (Joined operation left right) e is = simple_combined operation (expression_of left) (expression_of right) e is
simple (Choice test one other) e is = absurd (cc)

simple_bounds : (side : Side) (e : Expression) → is_simple e ≡ true → bounds_on side e ≡ is_affine e
simple_bounds Lower (Number value) h = refl
simple_bounds Lower (Name name) h = refl
simple_bounds Lower (Sum left right) h = refl
simple_bounds Lower (Difference left right) h = refl
simple_bounds Lower (Product left right) h = refl
simple_bounds Lower (Negation of) h = refl
simple_bounds Upper (Number value) h = refl
simple_bounds Upper (Name name) h = refl
simple_bounds Upper (Sum left right) h = refl
simple_bounds Upper (Difference left right) h = refl
simple_bounds Upper (Product left right) h = refl
simple_bounds Upper (Negation of) h = refl
simple_bounds side (Maximum left right) h = absurd (false_is_not_true h)
simple_bounds side (Minimum left right) h = absurd (false_is_not_true h)
simple_bounds side (Ceiling of divisor) h = absurd (false_is_not_true h)
simple_bounds side (Floor of divisor) h = absurd (false_is_not_true h)
simple_bounds side (Remainder of divisor) h = absurd (false_is_not_true h)

-- the row of a value
pub bound_of_value : (parameters loops : List (List ℕ)) (side : Side) (strict : Bool) (t : Term) (v : EvaluationData) (a : BoundsData)
    → IsValue parameters loops t v → bound_of t ≡ expression_of t → IsBound parameters loops side strict (bound_of t) a (with_value side strict v.form a)
bound_of_value parameters loops side strict t v a p same e is rules =
    let here : expression_of t ≡ Some e = sym same ∙ is in
    let affine : is_affine e ≡ true = sym (simple_bounds side e (simple t e here)) ∙ rules in
    ap (λ f. with_value side strict f a) (p.expression e here).form_is ∙ sym (value_bound parameters loops strict a side e affine)

-- ---- two bounds

pub bound_maximum : (parameters loops : List (List ℕ)) (side : Side) (strict : Bool) (l r : Term) (a b c : BoundsData)
    → IsBound parameters loops side strict (bound_of l) a b → IsBound parameters loops side strict (bound_of r) b c
    → IsBound parameters loops side strict (option_map2 Maximum (bound_of l) (bound_of r)) a c
bound_maximum parameters loops Lower strict l r a b c p q e is rules =
    let made = made_of Maximum (bound_of l) (bound_of r) e is in
    let fine = both_hold (is_lower_bound made.left) (is_lower_bound made.right) (subst (λ x. is_lower_bound x ≡ true) made.made rules) in
    q made.right made.right_is fine.1 ∙ ap (with_bound parameters loops Lower strict made.right) (p made.left made.left_is fine.0)
    ∙ sym (maximum_bound parameters loops strict a made.left made.right) ∙ ap (λ x. with_bound parameters loops Lower strict x a) (sym made.made)
bound_maximum parameters loops Upper strict l r a b c p q e is rules =
    let made = made_of Maximum (bound_of l) (bound_of r) e is in
    absurd (false_is_not_true (subst (λ x. is_upper_bound x ≡ true) made.made rules))

pub bound_minimum : (parameters loops : List (List ℕ)) (side : Side) (strict : Bool) (l r : Term) (a b c : BoundsData)
    → IsBound parameters loops side strict (bound_of l) a b → IsBound parameters loops side strict (bound_of r) b c
    → IsBound parameters loops side strict (option_map2 Minimum (bound_of l) (bound_of r)) a c
bound_minimum parameters loops Upper strict l r a b c p q e is rules =
    let made = made_of Minimum (bound_of l) (bound_of r) e is in
    let fine = both_hold (is_upper_bound made.left) (is_upper_bound made.right) (subst (λ x. is_upper_bound x ≡ true) made.made rules) in
    q made.right made.right_is fine.1 ∙ ap (with_bound parameters loops Upper strict made.right) (p made.left made.left_is fine.0)
    ∙ sym (minimum_bound parameters loops strict a made.left made.right) ∙ ap (λ x. with_bound parameters loops Upper strict x a) (sym made.made)
bound_minimum parameters loops Lower strict l r a b c p q e is rules =
    let made = made_of Minimum (bound_of l) (bound_of r) e is in
    absurd (false_is_not_true (subst (λ x. is_lower_bound x ≡ true) made.made rules))

-- ---- quotients

-- a bare integer is an integer
bare : (t : Term) (d : ℕ) → divisor_of t ≡ Some d → integer_of t ≡ Some d
bare (Integer value) d is = is
bare Literal d is = absurd (cc)
bare (Named name at subscripts) d is = absurd (cc)
bare (Call name at arguments) d is = absurd (cc)
bare (Bracket of) d is = absurd (cc)
bare (Signed sign of) d is = absurd (cc)
bare (Joined operation left right) d is = absurd (cc)
bare (Choice test one other) d is = absurd (cc)

pub bound_ceiling : (parameters loops : List (List ℕ)) (side : Side) (strict : Bool) (l r : Term) (v w : EvaluationData) (a : BoundsData)
    → IsValue parameters loops l v → IsValue parameters loops r w
    → IsBound parameters loops side strict (option_map2 Ceiling (expression_of l) (divisor_of r)) a (with_ceiling side strict v.form w.integer a)
bound_ceiling parameters loops side strict l r v w a p q e is rules =
    let made = made_of Ceiling (expression_of l) (divisor_of r) e is in
    ap (λ f. with_ceiling side strict f w.integer a) (p.expression made.left made.left_is).form_is
    ∙ ap (λ d. with_ceiling side strict (checked_form parameters loops made.left) d a) (q.integer made.right (bare r made.right made.right_is))
    ∙ sym (ceiling_bound parameters loops strict a side made.left made.right) ∙ ap (λ x. with_bound parameters loops side strict x a) (sym made.made)

pub bound_floor : (parameters loops : List (List ℕ)) (side : Side) (strict : Bool) (l r : Term) (v w : EvaluationData) (a : BoundsData)
    → IsValue parameters loops l v → IsValue parameters loops r w
    → IsBound parameters loops side strict (option_map2 Floor (expression_of l) (divisor_of r)) a (with_floor side strict v.form w.integer a)
bound_floor parameters loops side strict l r v w a p q e is rules =
    let made = made_of Floor (expression_of l) (divisor_of r) e is in
    ap (λ f. with_floor side strict f w.integer a) (p.expression made.left made.left_is).form_is
    ∙ ap (λ d. with_floor side strict (checked_form parameters loops made.left) d a) (q.integer made.right (bare r made.right made.right_is))
    ∙ sym (floor_bound parameters loops strict a side made.left made.right) ∙ ap (λ x. with_bound parameters loops side strict x a) (sym made.made)

-- ---- calls

-- what has to be shown of the four operators where a name stands for this one
abbrev pub Picked : (Option Expression → Type 0) → Option Operator → Option Expression → Option Expression → Option Expression → Option Expression → Type 0
Picked P None w x y z = P None
Picked P (Some op.Both) w x y z = P w × P x
Picked P (Some op.Ceiling) w x y z = P y
Picked P (Some op.Floor) w x y z = P z

pick : (P : Option Expression → Type 0) (a b c d : Bool) (w x y z : Option Expression) (o : Option Operator)
    → o ≡ cond a (Some op.Both) (cond b (Some op.Both) (cond c (Some op.Ceiling) (cond d (Some op.Floor) None))) → Picked P o w x y z
    → P (cond a w (cond b x (cond c y (cond d z None))))
pick P true b c d w x y z o e h = (subst (λ p. Picked P p w x y z) e h).0
pick P false true c d w x y z o e h = (subst (λ p. Picked P p w x y z) e h).1
pick P false false true d w x y z o e h = subst (λ p. Picked P p w x y z) e h
pick P false false false true w x y z o e h = subst (λ p. Picked P p w x y z) e h
pick P false false false false w x y z o e h = subst (λ p. Picked P p w x y z) e h

picked_by : (P : Option Expression → Type 0) (name : List ℕ) (w x y z : Option Expression) (o : Option Operator) → o ≡ operator_named name → Picked P o w x y z
    → P (cond (bytes_eq name (codes "max")) w (cond (bytes_eq name (codes "min")) x (cond (bytes_eq name (codes "ceild")) y (cond (bytes_eq name (codes "floord")) z None))))
picked_by P name w x y z o e h =
    pick P (bytes_eq name (codes "max")) (bytes_eq name (codes "min")) (bytes_eq name (codes "ceild")) (bytes_eq name (codes "floord")) w x y z o e h

-- what holds of a call on two arguments, by its operator
pub call_of_two : {X : Type 0} (P : Option Expression → Type 0) (name : List ℕ) (at : ℕ) (says : X → Located) (xs : List X) (l r : X) (o : Option Operator)
    → xs ≡ l ∷ (r ∷ []) → o ≡ operator_named name
    → Picked P o (option_map2 Maximum (bound_of (says l).term) (bound_of (says r).term)) (option_map2 Minimum (bound_of (says l).term) (bound_of (says r).term))
    (option_map2 Ceiling (expression_of (says l).term) (divisor_of (says r).term)) (option_map2 Floor (expression_of (says l).term) (divisor_of (says r).term))
    → P (bound_of (Call name at (terms_by says xs)))
call_of_two P name at says xs l r o two is h =
    subst (λ ys. P (bound_of (Call name at (terms_by says ys)))) (sym two)
    (picked_by P name (option_map2 Maximum (bound_of (says l).term) (bound_of (says r).term)) (option_map2 Minimum (bound_of (says l).term) (bound_of (says r).term))
    (option_map2 Ceiling (expression_of (says l).term) (divisor_of (says r).term)) (option_map2 Floor (expression_of (says l).term) (divisor_of (says r).term)) o is h)

none_made : {A B C : Type 0} (f : A → B → C) (x : Option A) → option_map2 f x None ≡ None
none_made f None = refl
none_made f (Some a) = refl

none_by : (a b c d : Bool) (x y : Option Expression) → x ≡ None → y ≡ None → cond a None (cond b None (cond c x (cond d y None))) ≡ None
none_by true b c d x y e f = refl
none_by false true c d x y e f = refl
none_by false false true d x y e f = e
none_by false false false true x y e f = f
none_by false false false false x y e f = refl

none_named : (name : List ℕ) (x y : Option Expression) → x ≡ None → y ≡ None
    → cond (bytes_eq name (codes "max")) None
    (cond (bytes_eq name (codes "min")) None (cond (bytes_eq name (codes "ceild")) x (cond (bytes_eq name (codes "floord")) y None))) ≡ None
none_named name x y e f =
    none_by (bytes_eq name (codes "max")) (bytes_eq name (codes "min")) (bytes_eq name (codes "ceild")) (bytes_eq name (codes "floord")) x y e f

-- a call on another number of arguments is no bound
pub call_of_others : {X : Type 0} (name : List ℕ) (at : ℕ) (says : X → Located) (xs : List X) → ¬ (length xs ≡ 2) → bound_of (Call name at (terms_by says xs)) ≡ None
call_of_others name at says [] other = none_named name None None refl refl
call_of_others name at says (x ∷ []) other =
    none_named name (option_map2 Ceiling (expression_of (says x).term) None) (option_map2 Floor (expression_of (says x).term) None)
    (none_made Ceiling (expression_of (says x).term)) (none_made Floor (expression_of (says x).term))
call_of_others name at says (x ∷ (y ∷ [])) other = absurd (other refl)
call_of_others name at says (x ∷ (y ∷ (z ∷ xs))) other =
    none_named name (option_map2 Ceiling (expression_of (says x).term) None) (option_map2 Floor (expression_of (says x).term) None)
    (none_made Ceiling (expression_of (says x).term)) (none_made Floor (expression_of (says x).term))

-- a list of two items
pub two_items : {X : Type 0} (xs : List X) (a b : X) → length xs ≡ 2 → a ≡ get_or xs 0 a → b ≡ get_or xs 1 b → xs ≡ a ∷ (b ∷ [])
two_items [] a b e f g = absurd (omega (arith, e))
two_items (x ∷ []) a b e f g = absurd (omega (arith, e))
two_items (x ∷ (y ∷ [])) a b e f g = ap (λ z. z ∷ (y ∷ [])) (sym f) ∙ ap (λ z. a ∷ (z ∷ [])) (sym g)
two_items (x ∷ (y ∷ (z ∷ xs))) a b e f g = absurd (omega (arith, e))
