use Rattle.std.proofs.Common.{arith}
use Rattle.std.proofs.lemmas.Grind.{common_steps}
use Rattle.region_rules.proofs.Sizes.{by_digits}
use Rattle.region_rules.proofs.numbers.number_size.Goals as goal

pub returns : goal.returns
returns c = by_digits c.args.digits.now c.loop-digit.size (grind (arith, common_steps))
