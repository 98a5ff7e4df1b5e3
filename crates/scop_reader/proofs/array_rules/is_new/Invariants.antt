use Rattle.std.proofs.Common.{◌≡◌, drop}
use Rattle.scop_core.specs.Printable.{has_no_array}
use Rattle.scop_reader.proofs.array_rules.is_new.Given as goal

abbrev pub invariant-loop-array : goal.invariant-loop-array
invariant-loop-array l = has_no_array l.identifier (drop l.array-index l.arrays) ≡ has_no_array l.identifier l.arrays
