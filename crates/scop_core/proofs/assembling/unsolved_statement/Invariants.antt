use Rattle.std.proofs.Common.{◌≡◌, ◌+◌, drop}
use Rattle.scop_core.specs.Assembly.{first_unsolved}
use Rattle.scop_core.proofs.assembling.unsolved_statement.Given as goal

abbrev pub invariant-loop-k : goal.invariant-loop-k
invariant-loop-k l = first_unsolved (l.k + 1) (drop l.k l.raws) ≡ first_unsolved 1 l.raws
