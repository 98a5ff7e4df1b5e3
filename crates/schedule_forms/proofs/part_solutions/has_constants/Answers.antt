use Rattle.std.proofs.Common.{◌*◌, arith}
use Rattle.schedule_forms.specs.SolvedForm.{has_output}
use Rattle.schedule_forms.proofs.SolvedShapes.{each_at}
use Rattle.schedule_forms.proofs.part_solutions.has_constants.Goals as goal

pub has_constant-good-requires-clause-given : goal.has_constant-good-requires-clause-given
has_constant-good-requires-clause-given c = each_at (has_output c.args.part.now) c.args.part.now.shape.outputs (2 * c.loop-k.k) (omega arith) c.requires.given
