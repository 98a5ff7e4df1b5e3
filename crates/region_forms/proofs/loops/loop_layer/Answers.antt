use Rattle.std.proofs.Common.{subst, false}
use Rattle.c_lexer.specs.Pieces.{bytes_of}
use Rattle.c_parser.specs.declared.tree.Loop.{out-Loop}
use Rattle.clan_rows.specs.Bounds.{is_strict, no_bounds}
use Rattle.clan_rows.specs.Contents.{bounds_of, said}
use Rattle.clan_rows.specs.Fitting.{in_range}
use Rattle.region_trees.specs.Regions.{bound_of}
use Rattle.region_trees.specs.Statements.{step_of}
use Rattle.region_trees.specs.Terms.{order_of, sum_of}
use Rattle.region_forms.specs.Bounds.{IsBound, IsStride}
use Rattle.region_forms.proofs.LoopHeads.{loop_made}
use Rattle.region_forms.proofs.Trees.{ok_map}
use Rattle.region_forms.proofs.loops.loop_layer.Goals as goal

pub returns : goal.returns
returns c =
    let parameters = c.args.scope.now.parameters.now in
    let loops = c.args.scope.now.loops.now in
    let source = c.args.scope.now.source.now in
    let head = out-Loop c.args.head.now in
    let start = sum_of source head.start in
    let bound = sum_of source head.bound in
    let comparison = order_of head.rel in
    let step = step_of source head.step in
    let first = bounds_of c.in_ok-bounds.bounds in
    let all = bounds_of c.in_ok-bounds-2.bounds in
    let stride = c.in_ok-stride.stride in
    let begins = subst (λ side. IsBound parameters loops side false (bound_of start.term) no_bounds first) c.start_side-side.ensures
    (subst (λ old. IsBound parameters loops c.start_side-side.result false (bound_of start.term) old first) c.new.ensures c.in_ok-bounds.ensures) in
    let ends = subst (λ side. IsBound parameters loops side (is_strict comparison) (bound_of bound.term) first all) c.bound_side.ensures
    (subst (λ strict. IsBound parameters loops c.bound_side.result strict (bound_of bound.term) first all) c.is_strict.ensures c.in_ok-bounds-2.ensures) in
    let strides = subst (λ side. IsStride parameters loops side start.term (in_range step) stride) c.start_side-side.ensures
    (subst (λ z. IsStride parameters loops c.start_side-side.result start.term z stride) c.step_size-step.ensures c.in_ok-stride.ensures) in
    ok_map c.of_loop.result _ _
    (λ l made. loop_made parameters loops (bytes_of source head.name) start comparison bound step first all stride (said l) begins ends strides made) c.of_loop.ensures
