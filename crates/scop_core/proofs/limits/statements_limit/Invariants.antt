use Rattle.std.proofs.Common.{◌≡◌, ◌+◌, drop}
use Rattle.scop_core.specs.Assembly.{first_limit}
use Rattle.scop_core.proofs.limits.statements_limit.Given as goal

abbrev pub invariant-loop-k : goal.invariant-loop-k
invariant-loop-k l = first_limit (l.k + 1) (drop l.k l.raws) ≡ first_limit 1 l.raws
