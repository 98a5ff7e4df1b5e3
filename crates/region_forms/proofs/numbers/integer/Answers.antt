use Rattle.std.proofs.Common.{arith}
use Rattle.region_forms.proofs.Digits.{soon_out}
use Rattle.region_forms.proofs.numbers.integer.Goals as goal

pub returns-then-value : goal.returns-then-value
returns-then-value c = soon_out c.loop-b.value c.loop-b.b-index c.args.digits.now (omega arith) (omega arith) c.loop-b.invariant
