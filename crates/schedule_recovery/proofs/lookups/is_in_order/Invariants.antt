use Rattle.std.proofs.Common.{◌≡◌, ◌-◌, drop, length}
use Rattle.std.specs.List.{range_with_len}
use Rattle.beta_tree.specs.Edits.{same_vector}
use Rattle.schedule_recovery.proofs.lookups.is_in_order.Given as goal

abbrev pub invariant-loop-k : goal.invariant-loop-k
invariant-loop-k l = same_vector (drop l.k l.numbers) (range_with_len l.k (length l.numbers - l.k)) ≡ same_vector l.numbers (range_with_len 0 (length l.numbers))
