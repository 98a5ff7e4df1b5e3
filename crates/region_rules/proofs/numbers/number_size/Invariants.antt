use Rattle.std.proofs.Common.{◌≡◌, drop}
use Rattle.region_rules.specs.declared.facts.Size.TheVariants as size
use Rattle.region_rules.proofs.Sizes.{size_from}
use Rattle.region_rules.proofs.numbers.number_size.Given as goal

abbrev pub invariant-loop-digit : goal.invariant-loop-digit
invariant-loop-digit l = size_from l.size (drop l.digit-index l.digits) ≡ size_from size.Zero l.digits
