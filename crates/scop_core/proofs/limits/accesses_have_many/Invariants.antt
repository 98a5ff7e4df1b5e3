use Rattle.std.proofs.Common.{◌≡◌, drop}
use Rattle.scop_core.specs.Assembly.{accesses_many}
use Rattle.scop_core.proofs.limits.accesses_have_many.Given as goal

abbrev pub invariant-loop-access : goal.invariant-loop-access
invariant-loop-access l = accesses_many (drop l.access-index l.accesses) ≡ accesses_many l.accesses
