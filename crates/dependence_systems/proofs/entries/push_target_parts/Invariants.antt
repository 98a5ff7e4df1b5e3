use Rattle.std.proofs.Common.{◌≡◌, ◌≤◌, ◌++◌, ◌+◌, ◌-◌, length}
use Rattle.std.specs.List.{flat_map, range_with_len}
use Rattle.suite_base.specs.Limits.{max_systems}
use Rattle.dependence_systems.specs.Entries.{at_levels, at_target_parts}
use Rattle.dependence_systems.proofs.entries.push_target_parts.Given as goal

abbrev pub invariant-loop-k : goal.invariant-loop-k
invariant-loop-k l = record {
  rest : l.list ++ flat_map (λ part. at_levels l.ends (record l.dep { target_part = part })) (range_with_len (l.k + 1) (l.ends.target_parts - l.k)) ≡ l.fn.list ++ at_target_parts l.ends l.dep;
  few : length l.list ≤ max_systems;
}
