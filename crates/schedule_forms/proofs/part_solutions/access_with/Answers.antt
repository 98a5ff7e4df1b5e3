use Rattle.std.proofs.Common.{arith}
use Rattle.schedule_forms.specs.SolvedForm.{has_output}
use Rattle.schedule_forms.proofs.SolvedShapes.{each_at}
use Rattle.schedule_forms.proofs.part_solutions.access_with.Goals as goal

pub constant_at-array-requires-clause-given : goal.constant_at-array-requires-clause-given
constant_at-array-requires-clause-given c = each_at (has_output c.args.part.now) c.args.part.now.shape.outputs 0 (omega arith) c.requires.given
