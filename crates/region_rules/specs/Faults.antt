-- The first place that breaks the rules.
use Rattle.std.specs.Prelude.{ℕ, List, Bool, true, false, cond, ◌&&◌, Option, Some, None, Result, Ok, Err}
use Rattle.c_parser.specs.declared.tree.Step.{Step}
use Rattle.c_parser.specs.declared.tree.Step.TheVariants as st
use Rattle.c_parser.specs.declared.tree.Loop.{Loop as LoopTree, out-Loop}
use Rattle.clan_extract.specs.Regions.{Comparison}
use Rattle.clan_extract.specs.Forms.{is_affine}
use Rattle.clan_extract.specs.Scops.{is_condition}
use Rattle.region_trees.specs.Terms.{Term, Terms, Located, Element, Pair, order_of, sum_of}
use Rattle.region_trees.specs.Statements.{step_of}
use Rattle.region_trees.specs.Regions.{first_some, expression_of, condition_of, reference_of, is_downward, is_step, references_of, references_of_all, limit_of, passed, start_of}
use Rattle.region_rules.specs.declared.facts.Size.{Size}
use Rattle.region_rules.specs.declared.facts.Size.TheVariants as size
use Rattle.region_rules.specs.declared.facts.Facts.{Facts}
use Rattle.region_rules.specs.Facts.{is_affine_kind}

-- the place of the fault, where there is one
abbrev pub fault_of : {A : Type 0} → Result A ℕ → Option ℕ
fault_of (Ok a) = None
fault_of (Err at) = Some at

-- ---- places

-- of a subscript, of a reference and of a condition
abbrev pub subscript_fault_of : Located → Option ℕ
subscript_fault_of x = fault_of (passed is_affine x.at (expression_of x.term))

abbrev pub reference_fault_of : Element → Option ℕ
reference_fault_of e = fault_of (reference_of e.name e.subscripts)

abbrev pub condition_fault_of : Located → Option ℕ
condition_fault_of x = fault_of (passed is_condition x.at (condition_of x.term))

-- ---- right sides

abbrev pub reads_fault_of : Term → Option ℕ
reads_fault_of t = fault_of (references_of t)

abbrev pub values_fault_of : Terms → Option ℕ
values_fault_of ts = fault_of (references_of_all ts)

abbrev pub arms_fault_of : Pair → Option ℕ
arms_fault_of arms = first_some (reads_fault_of arms.yes) (reads_fault_of arms.no)

-- ---- heads of loops

abbrev pub goes_down : Step → Bool
goes_down st.PostUp = false
goes_down st.PreUp = false
goes_down (st.AddUp piece) = false
goes_down st.PostDown = true
goes_down st.PreDown = true
goes_down (st.SubDown piece) = true

-- a bound of such facts is a start, where the step is of this size: with a step of at least 2 it is affine
abbrev pub is_start_by : Comparison → Size → Facts → Bool
is_start_by comparison size.Zero f = cond (is_downward comparison) f.is_upper_bound f.is_lower_bound
is_start_by comparison size.One f = cond (is_downward comparison) f.is_upper_bound f.is_lower_bound
is_start_by comparison size.Larger f = cond (is_downward comparison) f.is_upper_bound f.is_lower_bound && is_affine_kind f.affinity

abbrev pub is_bound_by : Comparison → Facts → Bool
is_bound_by comparison f = cond (is_downward comparison) f.is_lower_bound f.is_upper_bound

-- the first fault of a loop's head: its start, its bound, its step
abbrev pub head_fault_of : List ℕ → LoopTree → Option ℕ
head_fault_of source x =
    let head = out-Loop x in
    let comparison = order_of head.rel in
    let step = step_of source head.step in
    first_some (fault_of (start_of comparison step (sum_of source head.start)))
    (first_some (fault_of (limit_of comparison (sum_of source head.bound))) (fault_of (passed (is_step comparison) head.step_at (Some step))))
