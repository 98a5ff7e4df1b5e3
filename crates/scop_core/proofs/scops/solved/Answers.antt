use Rattle.std.proofs.Common.{length, ap, ◌∙◌}
use Rattle.scop_core.proofs.Assemblies.{shapes_names, length_solved}
use Rattle.scop_core.proofs.scops.solved.Goals as goal

pub statements_from-requires-clause-names : goal.statements_from-requires-clause-names
statements_from-requires-clause-names c = shapes_names c.args.context.now.shape.parameters c.args.raws c.requires.shapes

pub returns-clause-printable : goal.returns-clause-printable
returns-clause-printable c = c.in_ok-made.ensures.printable c.args.context.now.shape.parameters c.requires.shapes

pub returns-clause-count : goal.returns-clause-count
returns-clause-count c = ap length c.in_ok-made.ensures.statements ∙ length_solved 1 _
