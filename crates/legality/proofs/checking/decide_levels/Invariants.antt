use Rattle.std.proofs.Common.{◌≡◌, ◌+◌}
use Rattle.legality.specs.Violations.{edit_of}
use Rattle.legality.proofs.Answered.{GoesOn}
use Rattle.legality.proofs.checking.decide_levels.Given as goal

abbrev pub invariant-loop-level : goal.invariant-loop-level
invariant-loop-level l = record {
  kept : l.part ≡ l.fn.part;
  number : l.number ≡ l.before + l.level-index;
  said : GoesOn (edit_of l.scop l.edited) l.dep l.before l.number l.levels l.level-index;
}
