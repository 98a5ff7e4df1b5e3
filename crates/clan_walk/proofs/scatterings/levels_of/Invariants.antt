use Rattle.std.proofs.Common.{◌≡◌, take}
use Rattle.clan_extract.specs.Scops.{levels}
use Rattle.clan_walk.specs.Walk.{signs}
use Rattle.clan_walk.proofs.scatterings.levels_of.Given as goal

abbrev pub invariant-loop-k : goal.invariant-loop-k
invariant-loop-k l = l.made ≡ take l.k (levels l.parameters (signs l.turns))
