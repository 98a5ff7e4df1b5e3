use Rattle.std.proofs.Common.{refl}
use Rattle.region_trees.specs.Layers.{term_of_sum}
use Rattle.region_forms.specs.Evaluations.{told}
use Rattle.region_forms.proofs.LoopHeads.{long_stride}
use Rattle.region_forms.proofs.loops.strided.Goals as goal

pub returns : goal.returns
returns c =
    let scope = c.args.scope.now in
    λ long. long_stride scope.parameters.now scope.loops.now c.args.side (term_of_sum scope.source.now c.args.start.now) c.args.step (told c.in_ok-start.start) _ long
    c.in_ok-start.ensures refl refl refl
