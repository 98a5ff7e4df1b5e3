use Rattle.std.proofs.Common.{◌≡◌, ◌∙◌, ◌++◌, ◌+◌, ◌-◌, map, drop, ap, arith}
use Rattle.clan_extract.specs.Scops.{local_columns, locals_in, part_row, part_rows}
use Rattle.clan_rows.specs.Contents.{row_of, constraint_of}
use Rattle.clan_walk.proofs.Columns.{locals_more, rows_more}
use Rattle.clan_walk.proofs.domains.push_constraints.Goals as goal

pub loop-constraint-preserved : goal.loop-constraint-preserved
loop-constraint-preserved c =
    let l = c.loop-constraint in
    let shape = c.args.part.now.shape in
    let cs = c.args.constraints.now in
    let item = c.constraint-item.result in
    let new = c.push_constraint.new.part in
    let left = l.behind - c.own_locals-own.result in
    let more = locals_more cs l.constraint-index item c.loop-constraint-test.true c.constraint-item.is in
    let own = c.own_locals-own.ensures in
    let behind : left ≡ locals_in (map constraint_of (drop (l.constraint-index + 1) cs)) = omega (arith, l.invariant.behind, more, own) in
    record {
      shape = c.in_ok-push_constraint.ensures.shape ∙ l.invariant.shape;
      behind = behind;
      locals = omega (arith, l.invariant.locals, l.invariant.behind, more, own);
      rows =
          ap (λ k. new.rows ++ part_rows shape.outputs shape.parameters (l.before + k) (map constraint_of (drop (l.constraint-index + 1) cs))) own
          ∙ rows_more shape.outputs shape.parameters l.part.shape.outputs l.part.shape.parameters l.before left l.constraint-index cs item l.part.rows new.rows _
          c.loop-constraint-test.true c.constraint-item.is (ap (λ s. s.outputs) l.invariant.shape) (ap (λ s. s.parameters) l.invariant.shape) behind
          (c.in_ok-push_constraint.ensures.rows
          ∙ ap (λ rows. l.part.rows ++ map (part_row l.part.shape.outputs l.part.shape.parameters (local_columns l.before left item.has_local)) (map row_of rows)) c.as_slice.ensures)
          l.invariant.rows;
    }
