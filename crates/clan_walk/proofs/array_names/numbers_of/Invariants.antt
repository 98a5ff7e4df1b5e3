use Rattle.std.proofs.Common.{◌≡◌, ◌≤◌, ◌+ℤ◌, ℕ, List, length, pos, drop}
use Rattle.clan_extract.specs.Regions.{number_in}
use Rattle.clan_walk.specs.Places.{numbered_as, number_or}
use Rattle.clan_walk.proofs.array_names.numbers_of.Given as goal

abbrev pub invariant-loop-left : goal.invariant-loop-left
invariant-loop-left l = record {
  within : l.left ≤ length l.names;
  numbers : (name : List ℕ) → number_or (pos (length l.names)) (numbered_as name l.numbers.entries) ≡ pos l.left +ℤ number_in (drop l.left l.names) name;
}

abbrev pub decreases-loop-left : goal.decreases-loop-left
decreases-loop-left l = l.left
