use Rattle.std.proofs.Common.{◌≡◌, ℕ, ◌++◌, true, drop}
use Rattle.std.specs.Prelude.{All}
use Rattle.scop_data.specs.SolvedRows.{HasAccessRelation}
use Rattle.scop_core.specs.Assembly.{are_solved, solved_accesses, HasInputs}
use Rattle.scop_core.proofs.assembling.accesses_from.Given as goal

abbrev pub invariant-loop-access : goal.invariant-loop-access
invariant-loop-access l = record {
  all : l.made ++ solved_accesses (drop l.access-index l.accesses) ≡ solved_accesses l.accesses;
  left : are_solved (drop l.access-index l.accesses) ≡ true;
  printable : (d p : ℕ) → All (λ access. All (HasInputs d p) access.1) l.accesses → All (HasAccessRelation d p) l.made;
}
