use Rattle.std.proofs.Common.{arith}
use Rattle.schedule_forms.specs.SolvedForm.{has_output}
use Rattle.schedule_forms.proofs.SolvedShapes.{each_at}
use Rattle.schedule_forms.proofs.part_solutions.has_identifier.Goals as goal

pub is_constant_at-requires-clause-given : goal.is_constant_at-requires-clause-given
is_constant_at-requires-clause-given c = each_at (has_output c.args.part.now) c.args.part.now.shape.outputs 0 (omega arith) c.requires.given

pub constant_at-requires-clause-given : goal.constant_at-requires-clause-given
constant_at-requires-clause-given c = each_at (has_output c.args.part.now) c.args.part.now.shape.outputs 0 (omega arith) c.requires.given
