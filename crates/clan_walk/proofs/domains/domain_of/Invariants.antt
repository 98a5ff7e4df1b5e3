use Rattle.std.proofs.Common.{◌≡◌, ◌++◌, true, map, drop}
use Rattle.clan_extract.specs.Scops.{part}
use Rattle.clan_rows.specs.Contents.{constraint_of}
use Rattle.clan_walk.specs.Walk.{are_narrow}
use Rattle.clan_walk.proofs.domains.domain_of.Given as goal

abbrev pub invariant-loop-part : goal.invariant-loop-part
invariant-loop-part l = record {
  narrow : are_narrow (map (λ part. map constraint_of part) (drop l.part-index l.parts)) ≡ true;
  parts : l.domain ++ map (part l.iterators l.parameters) (map (λ part. map constraint_of part) (drop l.part-index l.parts))
      ≡ map (part l.iterators l.parameters) (map (λ part. map constraint_of part) l.parts);
}
