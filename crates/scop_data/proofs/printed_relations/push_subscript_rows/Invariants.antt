use Rattle.std.proofs.Common.{◌≡◌, ◌++◌, ◌+◌, drop}
use Rattle.scop_data.specs.SolvedRows.{value_rows}
use Rattle.scop_data.proofs.printed_relations.push_subscript_rows.Given as goal

abbrev pub invariant-loop-k : goal.invariant-loop-k
invariant-loop-k l = record {
  shape : l.part.shape ≡ l.fn.part.shape;
  rows : l.part.rows ++ value_rows l.fn.part.shape (l.k + 1) (drop l.k l.subscripts) ≡ l.fn.part.rows ++ value_rows l.fn.part.shape 1 l.subscripts;
}
