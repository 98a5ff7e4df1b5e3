use Rattle.std.proofs.Common.{◌∙◌, sym}
use Rattle.schedule_recovery.proofs.Endings.{in_order_differs}
use Rattle.schedule_recovery.proofs.lookups.differ.Goals as goal

pub returns-then-is_in_order : goal.returns-then-is_in_order
returns-then-is_in_order c = in_order_differs c.args.list.now (sym c.is_in_order.ensures ∙ c.if-is_in_order.true)
