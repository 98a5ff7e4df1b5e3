use Rattle.std.proofs.Common.{◌+◌, ◌++◌, ◌∷◌, [], ap, ◌∙◌}
use Rattle.dependence_systems.proofs.OwnSystems.{one_more_number}
use Rattle.dependence_systems.proofs.own.own_pieces.Goals as goal

pub loop-k-preserved : goal.loop-k-preserved
loop-k-preserved c = c.in_ok-push.ensures.ok ∙ (ap (λ xs. xs ++ (c.loop-k.k + 1) ∷ []) c.loop-k.invariant ∙ one_more_number c.loop-k.k)
