use Rattle.std.proofs.Common.{ap, arith, length}
use Rattle.clan_walk.proofs.Columns.{row_length}
use Rattle.clan_walk.proofs.domains.push_form_row.Goals as goal

pub push_row-requires : goal.push_row-requires
push_row-requires c =
    let whole = row_length c.new-entries.result c.push_padded.new.row c.push_locals.new.row c.push_padded-2.new.row c.push.new.self c.shape-shape.result.outputs c.shape-shape.result.parameters
    c.args.place.before c.args.place.behind c.args.place.has_local _ _ _ _ c.new-entries.ensures c.in_ok-push_padded.ensures c.in_ok-push_locals.ensures c.in_ok-push_padded-2.ensures c.in_ok-push.ensures.ok in
    omega (
      arith,
      ap length c.as_slice-3.ensures,
      whole,
      c.requires.inputs,
      c.requires.locals,
      ap (λ s. s.outputs) c.shape-shape.ensures.answer,
      ap (λ s. s.parameters) c.shape-shape.ensures.answer,
    )
