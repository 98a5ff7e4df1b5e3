use Rattle.std.proofs.Common.{◌≡◌, ◌+◌, drop}
use Rattle.scop_core.specs.LevelOrder.{common_loops}
use Rattle.dependence_systems.proofs.level_tests.count_common.Given as goal

abbrev pub invariant-loop-k : goal.invariant-loop-k
invariant-loop-k l = l.k + common_loops (drop l.k l.p) (drop l.k l.q) ≡ common_loops l.p l.q
