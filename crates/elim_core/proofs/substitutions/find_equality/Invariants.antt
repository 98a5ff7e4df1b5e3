use Rattle.std.proofs.Common.{◌≡◌, ◌++◌, take, drop}
use Rattle.elim_core.specs.Elimination.{first_equality, without_equality}
use Rattle.elim_core.proofs.substitutions.find_equality.Given as goal

abbrev pub invariant-loop-k : goal.invariant-loop-k
invariant-loop-k g l = record {
  left : first_equality (drop l.k l.tableau.rows) ≡ first_equality l.tableau.rows;
  rest : take l.k l.tableau.rows ++ without_equality (drop l.k l.tableau.rows) ≡ without_equality l.tableau.rows;
}
