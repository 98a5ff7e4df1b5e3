use Rattle.std.proofs.Common.{◌≡◌, ◌≤◌, ◌++◌, ◌+◌, drop, length}
use Rattle.std.specs.List.{flat_map}
use Rattle.suite_base.specs.Limits.{max_systems}
use Rattle.dependence_systems.specs.Entries.{numbered, entries_from, entries_among}
use Rattle.dependence_systems.proofs.entries.push_among.Given as goal

abbrev pub invariant-loop-k : goal.invariant-loop-k
invariant-loop-k l = record {
  rest : l.list ++ flat_map (λ a. entries_from l.ends a l.seconds) (numbered (l.k + 1) (drop l.k l.firsts)) ≡ l.fn.list ++ entries_among l.ends l.firsts l.seconds;
  few : length l.list ≤ max_systems;
}
