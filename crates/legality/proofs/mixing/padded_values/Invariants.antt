use Rattle.std.proofs.Common.{◌≡◌, map, take}
use Rattle.legality.specs.Mixed.{padded}
use Rattle.legality.proofs.mixing.padded_values.Given as goal

abbrev pub invariant-loop-value : goal.invariant-loop-value
invariant-loop-value l = l.made ≡ map (padded l.count) (take l.value-index l.values)
