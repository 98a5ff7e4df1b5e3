use Rattle.std.proofs.Common.{◌≡◌, ◌≤◌, ◌+◌, map, drop}
use Rattle.clan_extract.specs.Scops.{locals_in}
use Rattle.clan_rows.specs.Contents.{constraint_of}
use Rattle.clan_walk.proofs.domains.count_locals.Given as goal

abbrev pub invariant-loop-constraint : goal.invariant-loop-constraint
invariant-loop-constraint l = record {
  rest : l.count + locals_in (map constraint_of (drop l.constraint-index l.constraints)) ≡ locals_in (map constraint_of l.constraints);
  few : l.count ≤ l.constraint-index;
}
