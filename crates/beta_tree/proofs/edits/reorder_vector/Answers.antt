use Rattle.std.proofs.Common.{sym}
use Rattle.beta_tree.specs.Edits.{renumbered}
use Rattle.beta_tree.proofs.Places.{below_other}
use Rattle.beta_tree.proofs.Steps.{below_some}
use Rattle.beta_tree.proofs.edits.reorder_vector.Goals as goal

pub returns-in-Some : goal.returns-in-Some
returns-in-Some c = rw (below_some c.args.prefix.now (renumbered c.args.order.now) c.args.vector.now _ (sym c.in-Some.ensures)) c.reorder_rest.ensures

pub returns-in-None : goal.returns-in-None
returns-in-None c = rw (below_other c.args.prefix.now (renumbered c.args.order.now) c.args.vector.now (sym c.in-None.ensures)) c.copied_vector.ensures
