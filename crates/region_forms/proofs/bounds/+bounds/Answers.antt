use Rattle.std.proofs.Common.{◌≡◌, ◌∙◌, ℕ, List, [], ◌∷◌, length, true, false, Option, Some, None, ap, refl, sym, subst, rules, arith, inl, inr}
use Rattle.std.specs.Prelude.{◌==◌}
use Rattle.std.specs.Option.{is_some}
use Rattle.std.proofs.lemmas.Bool.{eqb-true}
use Rattle.c_lexer.specs.declared.pieces.Piece.{Piece}
use Rattle.c_lexer.specs.Pieces.{bytes_of}
use Rattle.c_parser.specs.declared.tree.And.{And, out-And}
use Rattle.c_parser.specs.declared.tree.Arms.{Arms}
use Rattle.c_parser.specs.declared.tree.Product.{out-Product}
use Rattle.c_parser.specs.declared.tree.Sum.{Sum, out-Sum}
use Rattle.c_parser.specs.declared.tree.Unary.{out-Unary}
use Rattle.c_parser.specs.declared.tree.Value.{Value}
use Rattle.c_parser.specs.declared.tree.Primary.{Primary}
use Rattle.c_parser.specs.declared.tree.Primary.TheVariants as pri
use Rattle.c_parser.specs.declared.tree.EqualSign.{EqualSign}
use Rattle.c_parser.specs.declared.tree.EqualSign.TheVariants as eq
use Rattle.clan_extract.specs.Regions.{Maximum, Minimum, Ceiling, Floor}
use Rattle.clan_rows.specs.declared.bounds.Bounds.{Bounds}
use Rattle.clan_rows.specs.Contents.{bounds_of}
use Rattle.region_trees.specs.Layers.{primary_is, primary_layer, term_of_sum}
use Rattle.region_trees.specs.Regions.{bound_of, divisor_of, expression_of, option_map2}
use Rattle.region_trees.specs.Terms.{Joined, Term, of_equal, primary_of, value_of}
use Rattle.region_forms.specs.declared.bounds.Operator.{Operator}
use Rattle.region_forms.specs.declared.bounds.Operator.TheVariants as op
use Rattle.region_forms.specs.declared.bounds.Reach.{Reach}
use Rattle.region_forms.specs.declared.scopes.Scope.{Scope}
use Rattle.region_forms.specs.Bounds.{BoundsAt, IsBoundAt, IsCallBoundAt, operator_named}
use Rattle.region_forms.proofs.BoundTerms.{Picked, bound_maximum, bound_minimum, bound_nothing, call_of_others, call_of_two, two_items}
use Rattle.region_forms.proofs.BoundTrees.{BoundsAsValue, product_of_two, signs_before, sum_of_two, sum_primary}
use Rattle.region_forms.proofs.Trees.{bracket_is, ends_at_and, ends_at_compare, ends_at_equal, ends_at_or, ends_at_sum, ok_map, only_item, value_arms}
use Rattle.region_forms.proofs.bounds.+bounds.Goals as goal

-- ---- sums

pub with_sum-returns-then-not-is_empty : goal.with_sum-returns-then-not-is_empty
with_sum-returns-then-not-is_empty t c =
    let plain = sum_of_two c.args.scope.now.source.now c.args.sum.now (λ none. absurd (search (c.if-not-is_empty.ensures.1 none, rules))) in
    ok_map c.with_value.result _ _ (λ made p. p plain) c.with_value.ensures

pub with_sum-returns-then-not-is_empty-2 : goal.with_sum-returns-then-not-is_empty-2
with_sum-returns-then-not-is_empty-2 t c =
    let plain = product_of_two c.args.scope.now.source.now c.args.sum.now (c.if-not-is_empty.ensures.0 refl)
    (λ none. absurd (search (c.if-not-is_empty-2.ensures.1 none, rules))) in
    ok_map c.with_value-then-not-is_empty-2.result _ _ (λ made p. p plain) c.with_value-then-not-is_empty-2.ensures

no_items : {X : Type 0} (xs ys : List X) → xs ≡ ys → true ≡ (length xs == 0) → ys ≡ []
no_items [] ys same e = sym same
no_items (x ∷ xs) ys same e = let zero = eqb-true (length (x ∷ xs)) 0 (sym e) in absurd (omega (arith, zero))

some_items : {X : Type 0} (xs ys : List X) → xs ≡ ys → false ≡ (length xs == 0) → ¬ (ys ≡ [])
some_items [] ys same e none = absurd (cc)
some_items (x ∷ xs) ys same e none = absurd (cc)

pub with_sum-returns-then-not-is_empty-3 : goal.with_sum-returns-then-not-is_empty-3
with_sum-returns-then-not-is_empty-3 t c =
    let plain = signs_before c.args.scope.now.source.now c.args.sum.now (c.if-not-is_empty.ensures.0 refl) (c.if-not-is_empty-2.ensures.0 refl)
    (some_items _ _ c.as_slice.ensures c.if-not-is_empty-3.ensures) in
    ok_map c.with_value-then-not-is_empty-3.result _ _ (λ made p. p plain) c.with_value-then-not-is_empty-3.ensures

-- the sum is this operand alone
lone_primary : (source : List ℕ) (x : Sum) (p : Primary) (t : Term) → (out-Sum x).rest ≡ [] → (out-Product (out-Sum x).first).rest ≡ []
    → (out-Unary (out-Product (out-Sum x).first).first).signs ≡ [] → (out-Unary (out-Product (out-Sum x).first).first).primary ≡ p
    → primary_of source p ≡ t → term_of_sum source x ≡ t
lone_primary source x p t none single unsigned is says = sum_primary source x none single unsigned ∙ ap (primary_of source) is ∙ says

pub with_sum-returns-in-Call : goal.with_sum-returns-in-Call
with_sum-returns-in-Call t c =
    let scope = c.args.scope.now in
    let source = scope.source.now in
    let same = lone_primary source c.args.sum.now _ _ (c.if-not-is_empty.ensures.0 refl) (c.if-not-is_empty-2.ensures.0 refl)
    (no_items _ _ c.as_slice.ensures c.if-not-is_empty-3.ensures) c.in-Call.is (primary_is source (pri.Call _ _) ∙ ap (primary_layer source) (pri.outs-Call _ _)) in
    ok_map c.with_call.result _ _
    (λ made p. subst (λ t. IsBoundAt scope c.args.reach t c.args.bounds made) (sym same)
    (subst (λ xs. IsCallBoundAt scope c.args.reach c.in-Call.name xs c.args.bounds made) c.as_slice-in-Call.ensures p))
    c.with_call.ensures

-- the bound of such an operand is that of a value
as_value : (source : List ℕ) (x : Sum) (p : Primary) (t : Term) → (out-Sum x).rest ≡ [] → (out-Product (out-Sum x).first).rest ≡ []
    → (out-Unary (out-Product (out-Sum x).first).first).signs ≡ [] → (out-Unary (out-Product (out-Sum x).first).first).primary ≡ p
    → primary_of source p ≡ t → BoundsAsValue t → BoundsAsValue (term_of_sum source x)
as_value source x p t none single unsigned is says plain = subst BoundsAsValue (sym (lone_primary source x p t none single unsigned is says)) plain

pub with_sum-returns-in-Integer : goal.with_sum-returns-in-Integer
with_sum-returns-in-Integer t c =
    let source = c.args.scope.now.source.now in
    let x = c.args.sum.now in
    let none = c.if-not-is_empty.ensures.0 refl in
    let single = c.if-not-is_empty-2.ensures.0 refl in
    let unsigned = no_items _ _ c.as_slice.ensures c.if-not-is_empty-3.ensures in
    let plain : BoundsAsValue (term_of_sum source x) = elim c.in-Integer.is [
      | inl p ↦ as_value source x _ _ none single unsigned p.1 (primary_is source (pri.Integer p.0) ∙ ap (primary_layer source) (pri.outs-Integer p.0)) refl
      | inr q ↦ elim q [
        | inl p ↦ as_value source x _ _ none single unsigned p.1 (primary_is source (pri.Literal p.0) ∙ ap (primary_layer source) (pri.outs-Literal p.0)) refl
        | inr r ↦ elim r [
          | inl p ↦ as_value source x _ _ none single unsigned p.1 (primary_is source (pri.Target p.0) ∙ ap (primary_layer source) (pri.outs-Target p.0)) refl
          | inr p ↦ as_value source x _ _ none single unsigned p.1 (bracket_is source p.0) refl
        ]
      ]
    ] in
    ok_map c.with_value-in-Integer.result _ _ (λ made p. p plain) c.with_value-in-Integer.ensures

-- ---- calls

-- what has to be shown of two arguments where a name stands for this operator
abbrev PickedAt : Scope → Reach → Option Operator → Value → Value → Bounds → Bounds → Type 0
PickedAt scope reach operator left right old made =
    let l = (value_of scope.source.now left).term in
    let r = (value_of scope.source.now right).term in
    Picked (λ bound. BoundsAt scope reach bound old made) operator (option_map2 Maximum (bound_of l) (bound_of r)) (option_map2 Minimum (bound_of l) (bound_of r))
    (option_map2 Ceiling (expression_of l) (divisor_of r)) (option_map2 Floor (expression_of l) (divisor_of r))

-- the bound of a call on two arguments, by its operator
call_bound : (scope : Scope) (reach : Reach) (name : Piece) (xs : List Value) (left right : Value) (operator : Option Operator) (old made : Bounds)
    → xs ≡ left ∷ (right ∷ []) → operator ≡ operator_named (bytes_of scope.source.now name) → PickedAt scope reach operator left right old made
    → IsCallBoundAt scope reach name xs old made
call_bound scope reach name xs left right operator old made two named picked =
    let source = scope.source.now in
    call_of_two (λ bound. BoundsAt scope reach bound old made) (bytes_of source name) name.from (value_of source) xs left right operator two named picked

pub with_call-returns-then-arguments-ne2 : goal.with_call-returns-then-arguments-ne2
with_call-returns-then-arguments-ne2 t c =
    let scope = c.args.scope.now in
    bound_nothing scope.parameters.now scope.loops.now c.args.reach.side c.args.reach.strict _ (bounds_of c.args.bounds) (bounds_of c.args.bounds)
    (call_of_others (bytes_of scope.source.now c.args.name) c.args.name.from (value_of scope.source.now) c.args.arguments.now c.if-arguments-ne2.true)

pub with_call-returns-in-None : goal.with_call-returns-in-None
with_call-returns-in-None t c =
    let scope = c.args.scope.now in
    let source = scope.source.now in
    let left = c.index-arguments-0.result in
    let right = c.index-arguments-1.result in
    let two = two_items c.args.arguments.now left right c.if-arguments-ne2.false c.index-arguments-0.is c.index-arguments-1.is in
    let named : None ≡ operator_named (bytes_of source c.args.name) = sym c.in-None.is ∙ c.operator_of.ensures ∙ ap operator_named c.piece_bytes.ensures in
    call_bound scope c.args.reach c.args.name c.args.arguments.now left right None c.args.bounds c.args.bounds two named
    (bound_nothing scope.parameters.now scope.loops.now c.args.reach.side c.args.reach.strict None (bounds_of c.args.bounds) (bounds_of c.args.bounds) refl)

pub with_call-returns-in_ok-first-in-Some-Both : goal.with_call-returns-in_ok-first-in-Some-Both
with_call-returns-in_ok-first-in-Some-Both t c =
    let scope = c.args.scope.now in
    let source = scope.source.now in
    let left = c.index-arguments-0.result in
    let right = c.index-arguments-1.result in
    let two = two_items c.args.arguments.now left right c.if-arguments-ne2.false c.index-arguments-0.is c.index-arguments-1.is in
    let named : Some op.Both ≡ operator_named (bytes_of source c.args.name) = ap (λ (o : Operator). Some o) (sym c.in-Some-Both.field-0-is) ∙ c.in-Some-Both.ensures ∙ ap operator_named c.piece_bytes.ensures in
    let l = (value_of source left).term in
    let r = (value_of source right).term in
    let old = bounds_of c.args.bounds in
    let first = c.in_ok-first-in-Some-Both in
    ok_map c.with_argument-in-Some-Both.result _ _
    (λ made p. call_bound scope c.args.reach c.args.name c.args.arguments.now left right (Some op.Both) c.args.bounds made two named (
      bound_maximum scope.parameters.now scope.loops.now c.args.reach.side c.args.reach.strict l r old (bounds_of first.first) (bounds_of made) first.ensures p,
      bound_minimum scope.parameters.now scope.loops.now c.args.reach.side c.args.reach.strict l r old (bounds_of first.first) (bounds_of made) first.ensures p,
    ))
    c.with_argument-in-Some-Both.ensures

pub with_call-returns-in-Some-Ceiling : goal.with_call-returns-in-Some-Ceiling
with_call-returns-in-Some-Ceiling t c =
    let scope = c.args.scope.now in
    let source = scope.source.now in
    let left = c.index-arguments-0.result in
    let right = c.index-arguments-1.result in
    let two = two_items c.args.arguments.now left right c.if-arguments-ne2.false c.index-arguments-0.is c.index-arguments-1.is in
    let named : Some op.Ceiling ≡ operator_named (bytes_of source c.args.name) = ap (λ (o : Operator). Some o) (sym c.in-Some-Ceiling.field-0-is) ∙ c.in-Some-Ceiling.ensures ∙ ap operator_named c.piece_bytes.ensures in
    ok_map c.with_ceiling.result _ _
    (λ made p. call_bound scope c.args.reach c.args.name c.args.arguments.now left right (Some op.Ceiling) c.args.bounds made two named p)
    c.with_ceiling.ensures

pub with_call-returns-in-Some-Floor : goal.with_call-returns-in-Some-Floor
with_call-returns-in-Some-Floor t c =
    let scope = c.args.scope.now in
    let source = scope.source.now in
    let left = c.index-arguments-0.result in
    let right = c.index-arguments-1.result in
    let two = two_items c.args.arguments.now left right c.if-arguments-ne2.false c.index-arguments-0.is c.index-arguments-1.is in
    let named : Some op.Floor ≡ operator_named (bytes_of source c.args.name) = ap (λ (o : Operator). Some o) (sym c.in-Some-Floor.field-0-is) ∙ c.in-Some-Floor.ensures ∙ ap operator_named c.piece_bytes.ensures in
    ok_map c.with_floor.result _ _
    (λ made p. call_bound scope c.args.reach c.args.name c.args.arguments.now left right (Some op.Floor) c.args.bounds made two named p)
    c.with_floor.ensures

-- ---- arguments

no_arms : (b : Option Arms) → false ≡ is_some b → b ≡ None
no_arms None e = refl
no_arms (Some a) e = absurd (cc)

some_arms : (b : Option Arms) → true ≡ is_some b → (a : Arms) × (b ≡ Some a)
some_arms None e = absurd (cc)
some_arms (Some a) e = (a, refl)

-- the argument is no bound
abbrev IsNoBound : Term → Type 0
IsNoBound t = bound_of t ≡ None

unbounded : (scope : Scope) (reach : Reach) (x : Value) (bounds : Bounds) → IsNoBound (value_of scope.source.now x).term
    → IsBoundAt scope reach (value_of scope.source.now x).term bounds bounds
unbounded scope reach x bounds none =
    bound_nothing scope.parameters.now scope.loops.now reach.side reach.strict _ (bounds_of bounds) (bounds_of bounds) none

equal_no_bound : (s : EqualSign) (l r : Term) → IsNoBound (Joined (of_equal s) l r)
equal_no_bound eq.Same l r = refl
equal_no_bound eq.Differ l r = refl

pub with_argument-returns-then-is_some : goal.with_argument-returns-then-is_some
with_argument-returns-then-is_some t c =
    let arms = some_arms _ c.if-is_some.ensures in
    unbounded c.args.scope.now c.args.reach c.args.value.now c.args.bounds
    (value_arms c.args.scope.now.source.now c.args.value.now arms.0 IsNoBound arms.1 (λ a b d. refl))

pub with_argument-returns-then-ands-ne1 : goal.with_argument-returns-then-ands-ne1
with_argument-returns-then-ands-ne1 t c =
    unbounded c.args.scope.now c.args.reach c.args.value.now c.args.bounds
    (ends_at_or c.args.scope.now.source.now c.args.value.now IsNoBound (no_arms _ c.if-is_some.ensures) refl (λ l r. refl)
    (λ e. c.if-ands-ne1.true (ap length c.as_slice-ands.ensures ∙ e)))

pub with_argument-returns-then-equals-ne1 : goal.with_argument-returns-then-equals-ne1
with_argument-returns-then-equals-ne1 t c =
    let a = c.index-ands-0.result in
    let one = only_item _ c.as_slice-ands.result.now a c.as_slice-ands.ensures c.if-ands-ne1.false c.index-ands-0.is in
    unbounded c.args.scope.now c.args.reach c.args.value.now c.args.bounds
    (ends_at_and c.args.scope.now.source.now c.args.value.now IsNoBound (no_arms _ c.if-is_some.ensures) a one refl (λ l r. refl)
    (λ e. c.if-equals-ne1.true (ap length c.as_slice-equals.ensures ∙ ap (λ (x : And). length (out-And x).items) (sym c.index-ands-0.is) ∙ e)))

pub with_argument-returns-then-not-is_empty : goal.with_argument-returns-then-not-is_empty
with_argument-returns-then-not-is_empty t c =
    let a = c.index-ands-0.result in
    let e = c.index-equals-0.result in
    let one = only_item _ c.as_slice-ands.result.now a c.as_slice-ands.ensures c.if-ands-ne1.false c.index-ands-0.is in
    let same = c.as_slice-equals.ensures ∙ ap (λ (x : And). (out-And x).items) (sym c.index-ands-0.is) in
    let only = only_item _ c.as_slice-equals.result.now e same c.if-equals-ne1.false c.index-equals-0.is in
    unbounded c.args.scope.now c.args.reach c.args.value.now c.args.bounds
    (ends_at_equal c.args.scope.now.source.now c.args.value.now IsNoBound (no_arms _ c.if-is_some.ensures) a e one only equal_no_bound
    (λ none. absurd (search (c.if-not-is_empty.ensures.1 none, rules))))

pub with_argument-returns-then-not-is_empty-2 : goal.with_argument-returns-then-not-is_empty-2
with_argument-returns-then-not-is_empty-2 t c =
    let a = c.index-ands-0.result in
    let e = c.index-equals-0.result in
    let one = only_item _ c.as_slice-ands.result.now a c.as_slice-ands.ensures c.if-ands-ne1.false c.index-ands-0.is in
    let same = c.as_slice-equals.ensures ∙ ap (λ (x : And). (out-And x).items) (sym c.index-ands-0.is) in
    let only = only_item _ c.as_slice-equals.result.now e same c.if-equals-ne1.false c.index-equals-0.is in
    unbounded c.args.scope.now c.args.reach c.args.value.now c.args.bounds
    (ends_at_compare c.args.scope.now.source.now c.args.value.now IsNoBound (no_arms _ c.if-is_some.ensures) a e one only (c.if-not-is_empty.ensures.0 refl)
    (λ s l r. refl) (λ none. absurd (search (c.if-not-is_empty-2.ensures.1 none, rules))))

pub with_argument-returns : goal.with_argument-returns
with_argument-returns t c =
    let scope = c.args.scope.now in
    let a = c.index-ands-0.result in
    let e = c.index-equals-0.result in
    let one = only_item _ c.as_slice-ands.result.now a c.as_slice-ands.ensures c.if-ands-ne1.false c.index-ands-0.is in
    let same = c.as_slice-equals.ensures ∙ ap (λ (x : And). (out-And x).items) (sym c.index-ands-0.is) in
    let only = only_item _ c.as_slice-equals.result.now e same c.if-equals-ne1.false c.index-equals-0.is in
    ok_map c.with_sum.result _ _
    (λ made p. ends_at_sum scope.source.now c.args.value.now (λ t. IsBoundAt scope c.args.reach t c.args.bounds made) (no_arms _ c.if-is_some.ensures) a e one only
    (c.if-not-is_empty.ensures.0 refl) (c.if-not-is_empty-2.ensures.0 refl) p)
    c.with_sum.ensures
