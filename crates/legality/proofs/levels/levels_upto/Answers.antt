use Rattle.std.proofs.Common.{ap, sym, ◌∙◌, ◌++◌, ◌∷◌, [], ◌+◌}
use Rattle.legality.proofs.Answered.{upto_more}
use Rattle.legality.proofs.levels.levels_upto.Goals as goal

pub loop-k-preserved : goal.loop-k-preserved
loop-k-preserved c = c.in_ok-push.ensures.ok ∙ (ap (λ t. t ++ (c.loop-k.k + 1) ∷ []) c.loop-k.invariant ∙ sym (upto_more c.loop-k.k))
