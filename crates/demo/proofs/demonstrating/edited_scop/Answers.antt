use Rattle.edit_laws.proofs.Unrefused.{unrefused_scripts_are_formed}
use Rattle.demo.proofs.demonstrating.edited_scop.Goals as goal

pub check-requires-clause-formed : goal.check-requires-clause-formed
check-requires-clause-formed c = unrefused_scripts_are_formed c.args.scop.now c.args.script.now c.in-Ok.ensures.none
