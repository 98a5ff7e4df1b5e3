use Rattle.std.proofs.Common.{◌∙◌, ap, refl, sym, subst}
use Rattle.region_trees.specs.Layers.{term_of_sum}
use Rattle.region_forms.specs.Bounds.{IsStrideAt, is_unit}
use Rattle.region_forms.proofs.LoopHeads.{no_stride}
use Rattle.region_forms.proofs.Trees.{ok_map}
use Rattle.region_forms.proofs.loops.stride_of.Goals as goal

pub returns-in-None : goal.returns-in-None
returns-in-None c =
    ok_map c.strided.result _ _ (λ s p. subst (λ z. IsStrideAt c.args.scope.now c.args.side c.args.start.now z s) (sym c.in-None.is) (p refl)) c.strided.ensures

pub returns-then-is_one : goal.returns-then-is_one
returns-then-is_one c =
    let scope = c.args.scope.now in
    no_stride scope.parameters.now scope.loops.now c.args.side (term_of_sum scope.source.now c.args.start.now) c.args.step
    (ap is_unit c.in-Some.is ∙ sym c.if-is_one.ensures)

pub returns-else-is_one : goal.returns-else-is_one
returns-else-is_one c =
    ok_map c.strided-in-Some.result _ _
    (λ s p. subst (λ z. IsStrideAt c.args.scope.now c.args.side c.args.start.now z s) (sym c.in-Some.is) (p (sym c.if-is_one.ensures))) c.strided-in-Some.ensures
