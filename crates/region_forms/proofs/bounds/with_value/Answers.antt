use Rattle.std.proofs.Common.{sym, subst}
use Rattle.clan_rows.specs.Contents.{bounds_of}
use Rattle.region_trees.specs.Layers.{term_of_sum}
use Rattle.region_trees.specs.Regions.{bound_of}
use Rattle.region_forms.specs.Bounds.{IsBound}
use Rattle.region_forms.specs.Evaluations.{told}
use Rattle.region_forms.proofs.BoundTerms.{bound_of_value}
use Rattle.region_forms.proofs.Trees.{ok_map}
use Rattle.region_forms.proofs.bounds.with_value.Goals as goal

pub returns : goal.returns
returns c =
    let scope = c.args.scope.now in
    let t = term_of_sum scope.source.now c.args.sum.now in
    let reach = c.args.reach in
    let old = bounds_of c.args.bounds in
    ok_map c.with_value.result _ _
    (λ made same. λ plain. subst (IsBound scope.parameters.now scope.loops.now reach.side reach.strict (bound_of t) old) (sym same)
    (bound_of_value scope.parameters.now scope.loops.now reach.side reach.strict t (told c.in_ok-value.value) old c.in_ok-value.ensures plain))
    c.with_value.ensures
