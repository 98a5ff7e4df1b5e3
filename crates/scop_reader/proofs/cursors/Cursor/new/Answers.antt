use Rattle.std.proofs.Common.{arith}
use Rattle.scop_reader.proofs.LineExtents.{extent_lines}
use Rattle.scop_reader.proofs.cursors.Cursor.new.Goals as goal

pub invariant_of-result : goal.invariant_of-result
invariant_of-result c = rw c.new.ensures (omega (arith, extent_lines c.args.text.now))
