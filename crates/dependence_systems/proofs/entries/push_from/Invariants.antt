use Rattle.std.proofs.Common.{◌≡◌, ◌≤◌, ◌++◌, ◌+◌, drop, length}
use Rattle.std.specs.List.{flat_map}
use Rattle.suite_base.specs.Limits.{max_systems}
use Rattle.dependence_systems.specs.Entries.{numbered, kind_between, entries_by, entries_from}
use Rattle.dependence_systems.proofs.entries.push_from.Given as goal

abbrev pub invariant-loop-k : goal.invariant-loop-k
invariant-loop-k l = record {
  rest : l.list ++ flat_map (λ b. entries_by (kind_between l.first.kind b.1.kind) l.ends (l.source_access, l.first) b) (numbered (l.k + 1) (drop l.k l.seconds))
      ≡ l.fn.list ++ entries_from l.ends (l.source_access, l.first) l.seconds;
  few : length l.list ≤ max_systems;
}
