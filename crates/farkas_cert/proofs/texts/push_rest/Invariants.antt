use Rattle.std.proofs.Common.{◌≡◌, ◌++◌, drop}
use Rattle.std.specs.List.{flat_map}
use Rattle.relation_core.specs.Layouts.{spaced}
use Rattle.farkas_cert.proofs.texts.push_rest.Given as goal

abbrev pub invariant-loop-multiplier : goal.invariant-loop-multiplier
invariant-loop-multiplier l = l.text ++ flat_map spaced (drop l.multiplier-index l.multipliers) ≡ l.initial.text ++ flat_map spaced l.multipliers
