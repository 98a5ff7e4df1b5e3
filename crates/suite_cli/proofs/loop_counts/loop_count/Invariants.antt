use Rattle.suite_cli.proofs.LoopWords.{SaysNoneBelow}
use Rattle.suite_cli.proofs.loop_counts.loop_count.Given as goal

abbrev pub invariant-loop-k : goal.invariant-loop-k
invariant-loop-k l = SaysNoneBelow l.word l.k
