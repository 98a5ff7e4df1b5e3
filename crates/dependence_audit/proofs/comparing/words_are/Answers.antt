use Rattle.dependence_audit.proofs.Compared.{word_step}
use Rattle.dependence_audit.proofs.comparing.words_are.Goals as goal

pub loop-word-preserved : goal.loop-word-preserved
loop-word-preserved c =
    let ends = c.in-Some.ensures in
    record { within = ends.within; left = word_step (λ word. word.now) _ _ _ _ _ _ _ c.loop-word-test.true c.loop-word.invariant.left ends }
