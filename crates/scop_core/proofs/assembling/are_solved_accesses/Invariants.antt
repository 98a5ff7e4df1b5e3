use Rattle.std.proofs.Common.{◌≡◌, drop}
use Rattle.scop_core.specs.Assembly.{are_solved}
use Rattle.scop_core.proofs.assembling.are_solved_accesses.Given as goal

abbrev pub invariant-loop-access : goal.invariant-loop-access
invariant-loop-access l = are_solved (drop l.access-index l.accesses) ≡ are_solved l.accesses
