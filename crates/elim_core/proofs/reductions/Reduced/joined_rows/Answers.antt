use Rattle.elim_core.proofs.Joining.{joined}
use Rattle.elim_core.proofs.reductions.Reduced.joined_rows.Goals as goal

pub returns : goal.returns
returns g c =
    rw (c.in_ok-start_from.ensures, c.in_ok-rows.ensures, c.as_slice.ensures.value, c.row_count.ensures.answer, c.row_count-known.ensures.answer)
    (joined c.args.self.now c.args.system.now c.self.inside.base c.self.inside.rows.items c.self.view_is c.requires.shape c.requires.rows c.row_count.ensures.form c.self.invariant)
