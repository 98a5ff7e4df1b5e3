use Rattle.std.proofs.Common.{◌≡◌, ◌-◌, []}
use Rattle.scop_reader.specs.Rules.{rows_from}
use Rattle.scop_reader.proofs.part_rules.rows_of.Given as goal

abbrev pub invariant-loop-turn : goal.invariant-loop-turn
invariant-loop-turn l = record {
  rows : rows_from l.columns l.rows [] l.fn.cursor ≡ rows_from l.columns (l.rows - l._turn) l.part.rows l.cursor;
  shape : l.part.shape ≡ l.fn.part.shape;
}
