use Rattle.std.proofs.Common.{◌≡◌, ◌≤◌, ◌++◌, ◌+◌, ◌-◌, map, length}
use Rattle.std.specs.List.{range_with_len}
use Rattle.suite_base.specs.Limits.{max_systems}
use Rattle.dependence_systems.specs.Entries.{levels_upto}
use Rattle.dependence_systems.proofs.entries.push_loops.Given as goal

abbrev pub invariant-loop-k : goal.invariant-loop-k
invariant-loop-k l = record {
  rest : l.list ++ map (λ level. record l.dep { level = level }) (range_with_len (l.k + 1) (l.ends.common - l.k)) ≡ l.fn.list ++ levels_upto l.dep l.ends.common;
  few : length l.list ≤ max_systems;
}
