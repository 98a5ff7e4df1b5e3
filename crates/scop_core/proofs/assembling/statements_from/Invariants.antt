use Rattle.std.proofs.Common.{◌≡◌, ℕ, ◌+◌, ◌++◌, None, drop, length}
use Rattle.std.specs.Prelude.{All}
use Rattle.scop_core.specs.Assembly.{first_unsolved, solved_statements, HasShapes}
use Rattle.scop_data.specs.SolvedData.{HasRelations}
use Rattle.scop_core.proofs.assembling.statements_from.Given as goal

abbrev pub invariant-loop-k : goal.invariant-loop-k
invariant-loop-k l = record {
  rest : drop l.k l.raws ≡ drop l.k l.fn.raws;
  count : length l.raws ≡ length l.fn.raws;
  all : l.made ++ solved_statements (l.k + 1) (drop l.k l.fn.raws) ≡ solved_statements 1 l.fn.raws;
  left : first_unsolved (l.k + 1) (drop l.k l.fn.raws) ≡ None;
  printable : (p : ℕ) → All (HasShapes p) l.fn.raws → All (HasRelations p) l.made;
}
