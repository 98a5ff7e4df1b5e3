use Rattle.std.proofs.Common.{◌≡◌, ◌++◌, drop}
use Rattle.scop_data.specs.SolvedRows.{floor_rows}
use Rattle.scop_data.proofs.printed_relations.push_floor_rows.Given as goal

abbrev pub invariant-loop-k : goal.invariant-loop-k
invariant-loop-k l = record {
  shape : l.part.shape ≡ l.fn.part.shape;
  rows : l.part.rows ++ floor_rows l.fn.part.shape l.k (drop l.k l.floors) ≡ l.fn.part.rows ++ floor_rows l.fn.part.shape 0 l.floors;
}
