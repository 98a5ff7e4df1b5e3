use Rattle.std.proofs.Common.{◌≡◌, ◌≤◌, ◌+◌, ◌-◌, ◌++◌, length, ◌∷◌}
use Rattle.std.specs.List.{flat_map, range_with_len}
use Rattle.suite_base.specs.Limits.{max_commands, max_levels}
use Rattle.chlore_recover.specs.Orders.{vectors_of}
use Rattle.chlore_recover.specs.Strategy.{fuses, fuses_of_length}
use Rattle.schedule_recovery.proofs.passes.push_all_joins.Given as goal

abbrev pub invariant-loop-k : goal.invariant-loop-k
invariant-loop-k l = record {
  script : l.script ++ flat_map (λ n. fuses_of_length n l.first (vectors_of l.rest)) (range_with_len (l.k + 1) (max_levels - l.k))
      ≡ l.fn.script ++ fuses (l.first ∷ vectors_of l.rest);
  short : length l.script ≤ max_commands;
}
