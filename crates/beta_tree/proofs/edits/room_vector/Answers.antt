use Rattle.std.proofs.Common.{sym}
use Rattle.beta_tree.specs.Edits.{make_room}
use Rattle.beta_tree.proofs.Places.{below_other}
use Rattle.beta_tree.proofs.Steps.{below_some, fit_below}
use Rattle.beta_tree.proofs.edits.room_vector.Goals as goal

pub room_rest-requires : goal.room_rest-requires
room_rest-requires c = fit_below c.args.siblings.now (make_room c.args.p) c.args.vector.now _ (sym c.in-Some.ensures) c.requires

pub returns-in-Some : goal.returns-in-Some
returns-in-Some c = rw (below_some c.args.siblings.now (make_room c.args.p) c.args.vector.now _ (sym c.in-Some.ensures)) c.room_rest.ensures

pub returns-in-None : goal.returns-in-None
returns-in-None c = rw (below_other c.args.siblings.now (make_room c.args.p) c.args.vector.now (sym c.in-None.ensures)) c.copied_vector.ensures
