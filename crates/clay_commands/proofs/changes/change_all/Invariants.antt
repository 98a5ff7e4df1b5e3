use Rattle.std.proofs.Common.{◌≡◌, ◌<◌, ◌^◌, map, take, drop, ◌++◌}
use Rattle.clay_commands.specs.Refusals.{statement_weight, most_under}
use Rattle.clay_commands.specs.Steps.{changed}
use Rattle.clay_commands.proofs.changes.change_all.Given as goal

abbrev pub invariant-loop-k : goal.invariant-loop-k
invariant-loop-k l = record {
  made : l.leaves.items ≡ map (changed l.command l.prefix) (take l.k l.initial.leaves.items) ++ drop l.k l.initial.leaves.items;
  light : most_under l.prefix (statement_weight l.command) (take l.k l.initial.leaves.items) < 2 ^ 127;
}
