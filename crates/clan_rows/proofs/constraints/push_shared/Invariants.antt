use Rattle.std.proofs.Common.{◌≡◌, ◌++◌, drop}
use Rattle.clan_rows.proofs.constraints.push_shared.Given as goal

abbrev pub invariant-loop-constraint : goal.invariant-loop-constraint
invariant-loop-constraint l = l.part ++ drop l.constraint-index l.constraints ≡ l.fn.part ++ l.constraints
