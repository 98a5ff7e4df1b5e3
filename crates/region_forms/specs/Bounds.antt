-- What the rows of a bound and the layer of a loop have to be. Nothing is asked where a term breaks the rules.
use Rattle.std.specs.Prelude.{◌≡◌, ℕ, List, ℤ, neg_ℤ, unsigned_abs, nat_eq, Bool, true, false, cond, bytes_eq, codes, Option, Some, None}
use Rattle.c_lexer.specs.declared.pieces.Piece.{Piece}
use Rattle.c_lexer.specs.Pieces.{bytes_of}
use Rattle.c_parser.specs.declared.tree.Loop.{Loop, out-Loop}
use Rattle.c_parser.specs.declared.tree.Sum.{Sum}
use Rattle.c_parser.specs.declared.tree.Value.{Value}
use Rattle.clan_extract.specs.Regions.{Comparison, Expression}
use Rattle.clan_extract.specs.Forms.{is_affine}
use Rattle.clan_extract.specs.Placements.{Head}
use Rattle.clan_extract.specs.Scops.{is_lower_bound, is_upper_bound}
use Rattle.clan_rows.specs.declared.bounds.Bounds.{Bounds}
use Rattle.clan_rows.specs.declared.bounds.Side.{Side}
use Rattle.clan_rows.specs.declared.bounds.Side.TheVariants.{Lower, Upper}
use Rattle.clan_rows.specs.declared.loops.Stride.{Stride}
use Rattle.clan_rows.specs.Bounds.{BoundsData, stride_layer, unit_layer, with_bound}
use Rattle.clan_rows.specs.Contents.{bounds_of}
use Rattle.clan_rows.specs.Fitting.{checked_form}
use Rattle.clan_rows.specs.Layers.{LayerData, loop_layer}
use Rattle.clan_rows.specs.Pieces.{loop_of}
use Rattle.region_trees.specs.Layers.{term_of_sum, terms_by}
use Rattle.region_trees.specs.Statements.{step_of}
use Rattle.region_trees.specs.Terms.{Call, Located, Term, order_of, sum_of, value_of}
use Rattle.region_trees.specs.Regions.{bound_of, divisor_of, expression_of, is_bound, is_start, is_step, option_map2}
use Rattle.region_forms.specs.declared.bounds.Operator.{Operator}
use Rattle.region_forms.specs.declared.bounds.Operator.TheVariants.{Both, Ceiling, Floor}
use Rattle.region_forms.specs.declared.bounds.Reach.{Reach}
use Rattle.region_forms.specs.declared.scopes.Scope.{Scope}

-- ---- bounds

-- an expression that may bound on this side
abbrev pub bounds_on : Side → Expression → Bool
bounds_on Lower e = is_lower_bound e
bounds_on Upper e = is_upper_bound e

-- the bounds with those of an expression more
abbrev pub IsBound : List (List ℕ) → List (List ℕ) → Side → Bool → Option Expression → BoundsData → BoundsData → Type 0
IsBound parameters loops side strict bound old new =
    (e : Expression) → bound ≡ Some e → bounds_on side e ≡ true → new ≡ with_bound parameters loops side strict e old

-- of an expression at a place
abbrev pub BoundsAt : Scope → Reach → Option Expression → Bounds → Bounds → Type 0
BoundsAt scope reach bound old new =
    IsBound scope.parameters.now scope.loops.now reach.side reach.strict bound (bounds_of old) (bounds_of new)

-- of a term at a place
abbrev pub IsBoundAt : Scope → Reach → Term → Bounds → Bounds → Type 0
IsBoundAt scope reach t old new = BoundsAt scope reach (bound_of t) old new

-- of a term that bounds only as a value
abbrev pub IsValueBoundAt : Scope → Reach → Term → Bounds → Bounds → Type 0
IsValueBoundAt scope reach t old new = bound_of t ≡ expression_of t → IsBoundAt scope reach t old new

-- of a call
abbrev pub IsCallBoundAt : Scope → Reach → Piece → List Value → Bounds → Bounds → Type 0
IsCallBoundAt scope reach name arguments old new =
    let source = scope.source.now in
    IsBoundAt scope reach (Call (bytes_of source name) name.from (terms_by (value_of source) arguments)) old new

-- of an operator on an expression and an integer
abbrev pub IsQuotientBoundAt : Scope → Reach → (Expression → ℕ → Expression) → Value → Value → Bounds → Bounds → Type 0
IsQuotientBoundAt scope reach make dividend divisor old new =
    let source = scope.source.now in
    BoundsAt scope reach (option_map2 make (expression_of (value_of source dividend).term) (divisor_of (value_of source divisor).term)) old new

-- the operator of this name
abbrev pub operator_named : List ℕ → Option Operator
operator_named name =
    cond (bytes_eq name (codes "max")) (Some Both)
    (cond (bytes_eq name (codes "min")) (Some Both)
    (cond (bytes_eq name (codes "ceild")) (Some Ceiling) (cond (bytes_eq name (codes "floord")) (Some Floor) None)))

-- ---- loops

-- a step of 1 or -1, and the opposite of a step; `None` is one out of range
abbrev pub is_unit : Option ℤ → Bool
is_unit None = false
is_unit (Some step) = nat_eq (unsigned_abs step) 1

abbrev pub opposite : Option ℤ → Option ℤ
opposite None = None
opposite (Some step) = Some (neg_ℤ step)

-- the stride of a loop with this start and step: what makes of any bounds the loop's layer
abbrev pub IsStride : List (List ℕ) → List (List ℕ) → Side → Term → Option ℤ → Option Stride → Type 0
IsStride parameters loops side start step stride =
    (e : Expression) → bound_of start ≡ Some e → (is_unit step ≡ false → is_affine e ≡ true)
    → (b : BoundsData) → loop_of b stride ≡ cond (is_unit step) (unit_layer b) (stride_layer b side (checked_form parameters loops e) step)

abbrev pub IsStrideAt : Scope → Side → Sum → Option ℤ → Option Stride → Type 0
IsStrideAt scope side start step stride =
    IsStride scope.parameters.now scope.loops.now side (term_of_sum scope.source.now start) step stride

-- the head of a loop by its terms, within the rules
pub record IsHeadOf (name : List ℕ) (start : Located) (comparison : Comparison) (bound : Located) (step : ℤ) (h : Head) : Type 0 where
  pub name_is : h.name ≡ name
  pub comparison_is : h.comparison ≡ comparison
  pub step_is : h.step ≡ step
  pub start_is : bound_of start.term ≡ Some h.start
  pub bound_is : bound_of bound.term ≡ Some h.bound
  pub starts : is_start comparison step h.start ≡ true
  pub bounds : is_bound comparison h.bound ≡ true
  pub steps : is_step comparison step ≡ true

-- the layer of a loop, inside these loops
abbrev pub IsLoop : List (List ℕ) → List (List ℕ) → List ℕ → Located → Comparison → Located → ℤ → LayerData → Type 0
IsLoop parameters loops name start comparison bound step l =
    (h : Head) → IsHeadOf name start comparison bound step h → l ≡ loop_layer parameters loops h

-- of a loop at a place
abbrev pub IsLoopAt : Scope → Loop → LayerData → Type 0
IsLoopAt scope loop l =
    let source = scope.source.now in
    let head = out-Loop loop in
    IsLoop scope.parameters.now scope.loops.now (bytes_of source head.name) (sum_of source head.start) (order_of head.rel) (sum_of source head.bound)
    (step_of source head.step) l
