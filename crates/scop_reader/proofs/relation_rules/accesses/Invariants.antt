use Rattle.std.proofs.Common.{◌≡◌, ◌-◌, []}
use Rattle.scop_reader.specs.Rules.{accesses_from}
use Rattle.scop_reader.proofs.relation_rules.accesses.Given as goal

abbrev pub invariant-loop-turn : goal.invariant-loop-turn
invariant-loop-turn l = accesses_from l.parameters l.iterators l.k l.count [] l.fn.cursor ≡ accesses_from l.parameters l.iterators l.k (l.count - l._turn) l.made l.cursor
