use Rattle.std.proofs.Common.{◌≡◌, drop}
use Rattle.scop_core.specs.LevelOrder.{is_textually_before}
use Rattle.dependence_systems.proofs.level_tests.is_before_in_text.Given as goal

abbrev pub invariant-loop-k : goal.invariant-loop-k
invariant-loop-k l = is_textually_before (drop l.k l.p) (drop l.k l.q) ≡ is_textually_before l.p l.q
