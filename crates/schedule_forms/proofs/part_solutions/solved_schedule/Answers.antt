use Rattle.schedule_forms.proofs.SolvedShapes.{scattering_odd, scattering_floors, scattering_outputs}
use Rattle.schedule_forms.proofs.part_solutions.solved_schedule.Goals as goal

pub schedule_with-requires-clause-odd : goal.schedule_with-requires-clause-odd
schedule_with-requires-clause-odd c = scattering_odd c.args.part.now c.requires

pub schedule_with-requires-clause-floors : goal.schedule_with-requires-clause-floors
schedule_with-requires-clause-floors c = scattering_floors c.args.part.now c.requires

pub schedule_with-requires-clause-given : goal.schedule_with-requires-clause-given
schedule_with-requires-clause-given c = scattering_outputs c.args.part.now c.requires
