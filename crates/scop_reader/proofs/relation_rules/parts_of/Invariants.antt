use Rattle.std.proofs.Common.{◌≡◌, ◌-◌, []}
use Rattle.scop_reader.specs.Rules.{parts_from}
use Rattle.scop_reader.specs.Headers.{IsSmallRole}
use Rattle.scop_reader.proofs.relation_rules.parts_of.Given as goal

abbrev pub invariant-loop-turn : goal.invariant-loop-turn
invariant-loop-turn l = record {
  parts : parts_from l.fn.role l.k l.count [] l.fn.cursor ≡ parts_from l.role_here l.k (l.count - l._turn) l.relation l.cursor;
  small : IsSmallRole l.role_here;
}
