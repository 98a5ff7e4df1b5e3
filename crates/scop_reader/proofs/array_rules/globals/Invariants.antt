use Rattle.std.proofs.Common.{length}
use Rattle.scop_reader.specs.Rules.{extensions_of}
use Rattle.scop_reader.proofs.GlobalTurns.{ReadsOn}
use Rattle.scop_reader.proofs.array_rules.globals.Given as goal

abbrev pub invariant-loop-alloc : goal.invariant-loop-alloc
invariant-loop-alloc l = ReadsOn l.fn.cursor (extensions_of l.special l.others) l.cursor

abbrev pub decreases-loop-alloc : goal.decreases-loop-alloc
decreases-loop-alloc l = length l.cursor.lines
