use Rattle.std.proofs.Common.{sym}
use Rattle.relation_core.specs.Systems.{columns}
use Rattle.elim_core.specs.Peaks.{column_order}
use Rattle.elim_core.proofs.ColumnOrder.{order_covers, order_below}
use Rattle.elim_core.proofs.Whole.{elimination_solved, elimination_refuted}
use Rattle.elim_core.proofs.decisions.decide_by_elimination.Goals as goal

pub confirm-requires-clause-valid : goal.confirm-requires-clause-valid
confirm-requires-clause-valid g c =
    elimination_refuted (columns c.args.system.now.shape) (column_order c.args.system.now.shape) c.args.system.now.rows c.in-Ok-Some.certificate c.eliminate.ensures.wide (sym (rw c.in-Ok-Some.field-0-is at c.in-Ok-Some.ensures.ok))

pub returns-in-Ok-None-clause-right : goal.returns-in-Ok-None-clause-right
returns-in-Ok-None-clause-right g c =
    elimination_solved (columns c.args.system.now.shape) (column_order c.args.system.now.shape) c.args.system.now.rows c.eliminate.ensures.wide (order_covers c.args.system.now.shape) (order_below c.args.system.now.shape) (sym (rw c.in-Ok-None.field-0-is at c.in-Ok-None.ensures.ok))
