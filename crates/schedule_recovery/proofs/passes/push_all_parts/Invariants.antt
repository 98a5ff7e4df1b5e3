use Rattle.std.proofs.Common.{◌≡◌, ◌++◌}
use Rattle.suite_base.specs.Limits.{max_levels}
use Rattle.chlore_recover.specs.Orders.{vectors_of}
use Rattle.chlore_recover.specs.Passes.{as_fissions, all_parted}
use Rattle.schedule_recovery.proofs.passes.push_all_parts.Given as goal

abbrev pub invariant-loop-size : goal.invariant-loop-size
invariant-loop-size l = l.script ++ as_fissions (all_parted l.size l.first (vectors_of l.rest)) ≡ l.fn.script ++ as_fissions (all_parted max_levels l.first (vectors_of l.rest))

abbrev pub decreases-loop-size : goal.decreases-loop-size
decreases-loop-size l = l.size
