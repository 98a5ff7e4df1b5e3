use Rattle.std.proofs.Common.{◌≡◌, ◌+◌, drop}
use Rattle.scop_core.specs.Assembly.{clash_among}
use Rattle.scop_core.proofs.clashes.clash_with.Given as goal

abbrev pub invariant-loop-i : goal.invariant-loop-i
invariant-loop-i l = clash_among (l.i + 1) l.j (drop l.i l.before) l.betas ≡ clash_among 1 l.j l.before l.betas
