use Rattle.std.proofs.Common.{◌≡◌, ◌++◌, drop}
use Rattle.std.specs.List.{flat_map}
use Rattle.relation_core.specs.Layouts.{spaced_count}
use Rattle.relation_core.proofs.layouts.push_counts.Given as goal

abbrev pub invariant-loop-count : goal.invariant-loop-count
invariant-loop-count l =
    l.text ++ flat_map spaced_count (drop l.count-index l.counts) ≡ l.initial.text ++ flat_map spaced_count l.counts
