use Rattle.std.proofs.Common.{◌≡◌, drop}
use Rattle.scop_core.specs.Assembly.{accesses_above}
use Rattle.scop_core.proofs.limits.accesses_pass.Given as goal

abbrev pub invariant-loop-access : goal.invariant-loop-access
invariant-loop-access l = accesses_above l.count l.most (drop l.access-index l.accesses) ≡ accesses_above l.count l.most l.accesses
