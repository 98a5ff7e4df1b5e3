use Rattle.std.proofs.Common.{sym}
use Rattle.schedule_recovery.proofs.Endings.{own_place}
use Rattle.schedule_recovery.proofs.lookups.own_place_of.Goals as goal

pub returns-then-list-number : goal.returns-then-list-number
returns-then-list-number c = own_place c.args.list.now c.args.number c.args.number c.requires c.if-number-list.true (sym c.if-list-number.true)
