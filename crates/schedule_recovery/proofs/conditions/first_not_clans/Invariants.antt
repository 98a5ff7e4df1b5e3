use Rattle.std.proofs.Common.{◌≡◌, ◌+◌, drop}
use Rattle.chlore_recover.specs.Refusals.{first_failing, has_clans_form}
use Rattle.schedule_recovery.proofs.conditions.first_not_clans.Given as goal

abbrev pub invariant-loop-k : goal.invariant-loop-k
invariant-loop-k l = first_failing has_clans_form (l.k + 1) (drop l.k l.statements) ≡ first_failing has_clans_form 1 l.statements
