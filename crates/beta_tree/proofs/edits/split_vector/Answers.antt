use Rattle.std.proofs.Common.{sym}
use Rattle.beta_tree.specs.Edits.{split_loop}
use Rattle.beta_tree.proofs.Places.{below_other}
use Rattle.beta_tree.proofs.Steps.{below_some, fit_below}
use Rattle.beta_tree.proofs.edits.split_vector.Goals as goal

pub split_rest-requires : goal.split_rest-requires
split_rest-requires c = fit_below c.args.siblings.now (split_loop c.args.p c.args.first) c.args.vector.now _ (sym c.in-Some.ensures) c.requires

pub returns-in-Some : goal.returns-in-Some
returns-in-Some c = rw (below_some c.args.siblings.now (split_loop c.args.p c.args.first) c.args.vector.now _ (sym c.in-Some.ensures)) c.split_rest.ensures

pub returns-in-None : goal.returns-in-None
returns-in-None c = rw (below_other c.args.siblings.now (split_loop c.args.p c.args.first) c.args.vector.now (sym c.in-None.ensures)) c.copied_vector.ensures
