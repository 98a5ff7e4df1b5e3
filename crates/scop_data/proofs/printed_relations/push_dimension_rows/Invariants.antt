use Rattle.std.proofs.Common.{◌≡◌, ◌++◌, ◌*◌, drop}
use Rattle.scop_data.specs.SolvedRows.{dimension_rows}
use Rattle.scop_data.proofs.printed_relations.push_dimension_rows.Given as goal

abbrev pub invariant-loop-k : goal.invariant-loop-k
invariant-loop-k l = record {
  shape : l.part.shape ≡ l.fn.part.shape;
  rows : l.part.rows ++ dimension_rows l.fn.part.shape (2 * l.k) (drop l.k l.betas) (drop l.k l.levels) ≡ l.fn.part.rows ++ dimension_rows l.fn.part.shape 0 l.betas l.levels;
}
