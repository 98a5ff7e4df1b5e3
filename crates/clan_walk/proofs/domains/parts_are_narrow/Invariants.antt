use Rattle.std.proofs.Common.{◌≡◌, map, drop}
use Rattle.clan_rows.specs.Contents.{constraint_of}
use Rattle.clan_walk.specs.Walk.{are_narrow}
use Rattle.clan_walk.proofs.domains.parts_are_narrow.Given as goal

abbrev pub invariant-loop-part : goal.invariant-loop-part
invariant-loop-part l = are_narrow (map (λ part. map constraint_of part) (drop l.part-index l.parts)) ≡ are_narrow (map (λ part. map constraint_of part) l.parts)
