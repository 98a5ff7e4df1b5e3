use Rattle.std.proofs.Common.{◌≡◌, ◌+◌, [], drop, take}
use Rattle.scop_core.specs.Assembly.{first_clash}
use Rattle.scop_core.proofs.clashes.statements_clash.Given as goal

abbrev pub invariant-loop-k : goal.invariant-loop-k
invariant-loop-k l = first_clash (l.k + 1) (take l.k l.statements) (drop l.k l.statements) ≡ first_clash 1 [] l.statements
