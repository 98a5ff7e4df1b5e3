use Rattle.std.proofs.Common.{ap, ◌∙◌, ◌++◌, ◌∷◌, []}
use Rattle.schedule_recovery.proofs.Pieces.{numbers_end}
use Rattle.schedule_recovery.proofs.level_scripts.numbers_below.Goals as goal

pub loop-k-preserved : goal.loop-k-preserved
loop-k-preserved c = c.in_ok-push.ensures.items ∙ (ap (λ t. t ++ c.loop-k.k ∷ []) c.loop-k.invariant ∙ numbers_end c.loop-k.k)
