use Rattle.std.proofs.Common.{◌≡◌, ◌≤◌, ◌++◌, ◌+◌, ◌-◌, length}
use Rattle.std.specs.List.{flat_map, range_with_len}
use Rattle.suite_base.specs.Limits.{max_systems}
use Rattle.dependence_systems.specs.Sides.{sides}
use Rattle.dependence_systems.specs.Entries.{between, side_at, entries_of_source}
use Rattle.dependence_systems.proofs.listing.push_source.Given as goal

abbrev pub invariant-loop-k : goal.invariant-loop-k
invariant-loop-k l = record {
  rest : l.list ++ flat_map (λ k. between (side_at (sides l.old l.now l.pieces) l.source) (side_at (sides l.old l.now l.pieces) k)) (range_with_len (l.k + 1) (length l.now.statements - l.k))
      ≡ l.fn.list ++ entries_of_source (sides l.old l.now l.pieces) (length l.now.statements) l.source;
  few : length l.list ≤ max_systems;
}
