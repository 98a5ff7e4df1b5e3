use Rattle.std.proofs.Common.{◌≡◌, drop}
use Rattle.scop_core.specs.Assembly.{some_above}
use Rattle.scop_core.proofs.limits.passes.Given as goal

abbrev pub invariant-loop-part : goal.invariant-loop-part
invariant-loop-part l = some_above l.count l.most (drop l.part-index l.parts) ≡ some_above l.count l.most l.parts
