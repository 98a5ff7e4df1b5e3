use Rattle.std.proofs.Common.{sym, subst}
use Rattle.clan_rows.specs.Contents.{bounds_of}
use Rattle.region_trees.specs.Terms.{value_of}
use Rattle.clan_extract.specs.Regions.{Floor}
use Rattle.region_trees.specs.Regions.{divisor_of, expression_of, option_map2}
use Rattle.region_forms.specs.Bounds.{IsBound}
use Rattle.region_forms.specs.Evaluations.{told}
use Rattle.region_forms.proofs.BoundTerms.{bound_floor}
use Rattle.region_forms.proofs.Trees.{ok_map}
use Rattle.region_forms.proofs.bounds.with_floor.Goals as goal

pub returns : goal.returns
returns c =
    let scope = c.args.scope.now in
    let l = (value_of scope.source.now c.args.dividend.now).term in
    let r = (value_of scope.source.now c.args.divisor.now).term in
    let reach = c.args.reach in
    let old = bounds_of c.args.bounds in
    ok_map c.with_floor.result _ _
    (λ made same. subst (IsBound scope.parameters.now scope.loops.now reach.side reach.strict (option_map2 Floor (expression_of l) (divisor_of r)) old) (sym same)
    (bound_floor scope.parameters.now scope.loops.now reach.side reach.strict l r (told c.in_ok-dividend.dividend) (told c.in_ok-divisor.divisor) old
    c.in_ok-dividend.ensures c.in_ok-divisor.ensures))
    c.with_floor.ensures
