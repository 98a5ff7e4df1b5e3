use Rattle.std.proofs.Common.{◌≤◌, ◌*◌}
use Rattle.legality.specs.Violations.{edit_of}
use Rattle.legality.proofs.Answered.{EntriesGoOn}
use Rattle.legality.proofs.checking.decide_entries.Given as goal

abbrev pub invariant-loop-dep : goal.invariant-loop-dep
invariant-loop-dep l = record {
  go : EntriesGoOn (edit_of l.scop l.edited) l.number l.list l.dep-index;
  few : l.number ≤ 25 * l.dep-index;
}
