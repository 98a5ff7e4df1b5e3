use Rattle.std.proofs.Common.{◌≡◌, ◌≤◌, ◌++◌, ◌+◌, ◌-◌, length}
use Rattle.std.specs.List.{flat_map, range_with_len}
use Rattle.suite_base.specs.Limits.{max_systems}
use Rattle.dependence_systems.specs.Sides.{sides}
use Rattle.dependence_systems.specs.Entries.{entries_of_source, entries_by_number}
use Rattle.dependence_systems.proofs.listing.deps.Given as goal

abbrev pub invariant-loop-j : goal.invariant-loop-j
invariant-loop-j l = record {
  rest : l.list ++ flat_map (λ j. entries_of_source (sides l.old l.now l.pieces) (length l.now.statements) j) (range_with_len (l.j + 1) (length l.now.statements - l.j))
      ≡ entries_by_number (sides l.old l.now l.pieces) (length l.now.statements);
  few : length l.list ≤ max_systems;
}
