use Rattle.std.proofs.Common.{◌≡◌, ◌++◌, ◌+◌, pos, drop}
use Rattle.clan_extract.specs.Regions.{numbered}
use Rattle.clan_walk.proofs.finishing.numbered_arrays.Given as goal

abbrev pub invariant-loop-k : goal.invariant-loop-k
invariant-loop-k l = l.made ++ numbered (pos (l.k + 1)) (drop l.k l.names) ≡ numbered (pos 1) l.names
