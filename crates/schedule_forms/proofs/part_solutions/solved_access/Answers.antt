use Rattle.schedule_forms.proofs.SolvedShapes.{access_outputs, access_locals, access_given}
use Rattle.schedule_forms.proofs.part_solutions.solved_access.Goals as goal

pub access_with-requires-clause-outputs : goal.access_with-requires-clause-outputs
access_with-requires-clause-outputs c = access_outputs c.args.part.now c.requires

pub access_with-requires-clause-locals : goal.access_with-requires-clause-locals
access_with-requires-clause-locals c = access_locals c.args.part.now c.requires

pub access_with-requires-clause-given : goal.access_with-requires-clause-given
access_with-requires-clause-given c = access_given c.args.part.now c.requires
