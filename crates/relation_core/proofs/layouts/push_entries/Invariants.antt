use Rattle.std.proofs.Common.{◌≡◌, ◌++◌, drop}
use Rattle.std.specs.List.{flat_map}
use Rattle.relation_core.specs.Layouts.{spaced}
use Rattle.relation_core.proofs.layouts.push_entries.Given as goal

abbrev pub invariant-loop-k : goal.invariant-loop-k
invariant-loop-k l = l.text ++ flat_map spaced (drop l.k l.entries) ≡ l.initial.text ++ flat_map spaced l.entries
