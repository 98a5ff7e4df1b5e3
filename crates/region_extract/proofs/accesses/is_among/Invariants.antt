use Rattle.std.proofs.Common.{◌≡◌, length}
use Rattle.clan_extract.specs.Regions.{is_among}
use Rattle.region_extract.proofs.accesses.is_among.Given as goal

abbrev pub invariant-loop-names : goal.invariant-loop-names
invariant-loop-names l = is_among l.name l.names ≡ is_among l.fn.name l.fn.names

abbrev pub decreases-loop-names : goal.decreases-loop-names
decreases-loop-names l = length l.names
