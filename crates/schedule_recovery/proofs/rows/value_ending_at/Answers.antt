use Rattle.schedule_recovery.proofs.RowEnds.{value_there, value_past}
use Rattle.schedule_recovery.proofs.rows.value_ending_at.Goals as goal

pub returns-then-place-row : goal.returns-then-place-row
returns-then-place-row c = value_there c.args.row.now c.args.place c.index-row-place.result c.requires c.if-place-row.true c.index-row-place.is

pub returns-else-place-row : goal.returns-else-place-row
returns-else-place-row c = value_past c.args.row.now c.args.place c.requires c.if-place-row.false
