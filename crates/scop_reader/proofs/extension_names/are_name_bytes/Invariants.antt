use Rattle.std.proofs.Common.{◌≡◌, length}
use Rattle.scop_core.specs.Printable.{are_name_bytes}
use Rattle.scop_reader.proofs.extension_names.are_name_bytes.Given as goal

abbrev pub invariant-loop-rest : goal.invariant-loop-rest
invariant-loop-rest l = are_name_bytes l.rest ≡ are_name_bytes l.fn.bytes

abbrev pub decreases-loop-rest : goal.decreases-loop-rest
decreases-loop-rest l = length l.rest
