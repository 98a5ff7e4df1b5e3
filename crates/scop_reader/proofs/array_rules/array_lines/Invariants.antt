use Rattle.std.proofs.Common.{◌≡◌, ◌-◌, []}
use Rattle.scop_reader.specs.Rules.{arrays_from}
use Rattle.scop_reader.proofs.array_rules.array_lines.Given as goal

abbrev pub invariant-loop-turn : goal.invariant-loop-turn
invariant-loop-turn l = arrays_from l.count [] l.fn.cursor ≡ arrays_from (l.count - l._turn) l.found l.cursor
