use Rattle.std.proofs.Common.{◌≡◌, ◌++◌, map, drop}
use Rattle.clan_extract.specs.Scops.{local_columns, part_row}
use Rattle.clan_rows.specs.Contents.{row_of}
use Rattle.clan_walk.proofs.domains.push_constraint.Given as goal

abbrev pub invariant-loop-row : goal.invariant-loop-row
invariant-loop-row l = record {
  shape : l.part.shape ≡ l.fn.part.shape;
  rows : l.part.rows ++ map (part_row l.fn.part.shape.outputs l.fn.part.shape.parameters (local_columns l.place.before l.place.behind l.place.has_local)) (map row_of (drop l.row-index l.rows))
      ≡ l.fn.part.rows ++ map (part_row l.fn.part.shape.outputs l.fn.part.shape.parameters (local_columns l.place.before l.place.behind l.place.has_local)) (map row_of l.rows);
}
