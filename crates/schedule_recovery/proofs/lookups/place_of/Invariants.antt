use Rattle.std.proofs.Common.{◌≡◌, ◌+◌, drop}
use Rattle.beta_tree.specs.Edits.{place_of}
use Rattle.schedule_recovery.proofs.lookups.place_of.Given as goal

abbrev pub invariant-loop-k : goal.invariant-loop-k
invariant-loop-k l = l.k + place_of l.number (drop l.k l.list) ≡ place_of l.number l.list
