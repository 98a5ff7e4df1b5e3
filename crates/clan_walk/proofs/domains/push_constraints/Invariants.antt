use Rattle.std.proofs.Common.{◌≡◌, ◌+◌, ◌++◌, map, drop}
use Rattle.clan_extract.specs.Scops.{locals_in, part_rows}
use Rattle.clan_rows.specs.Contents.{constraint_of}
use Rattle.clan_walk.proofs.domains.push_constraints.Given as goal

abbrev pub invariant-loop-constraint : goal.invariant-loop-constraint
invariant-loop-constraint l = record {
  shape : l.part.shape ≡ l.fn.part.shape;
  behind : l.behind ≡ locals_in (map constraint_of (drop l.constraint-index l.constraints));
  locals : l.before + l.behind ≡ l.fn.part.shape.locals;
  rows : l.part.rows ++ part_rows l.fn.part.shape.outputs l.fn.part.shape.parameters l.before (map constraint_of (drop l.constraint-index l.constraints))
      ≡ l.fn.part.rows ++ part_rows l.fn.part.shape.outputs l.fn.part.shape.parameters 0 (map constraint_of l.constraints);
}
