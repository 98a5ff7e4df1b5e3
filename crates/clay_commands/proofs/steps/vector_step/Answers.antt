use Rattle.clay_commands.proofs.VectorMaps.{vector_cause, vector_stepped}
use Rattle.clay_commands.proofs.steps.vector_step.Goals as goal

pub returns-in-Err-clause-cause : goal.returns-in-Err-clause-cause
returns-in-Err-clause-cause c =
    vector_cause c.args.parameters c.args.i c.args.command.now c.args.prefix.now c.args.leaves.now.items c.args.betas.now _ c.requires.of_vectors c.requires.vectors c.in-Err.ensures.cause

pub returns-clause-ok : goal.returns-clause-ok
returns-clause-ok c =
    vector_stepped c.args.parameters c.args.i c.args.command.now c.args.prefix.now c.args.leaves.now.items c.join.new.leaves.items c.args.betas.now c.edit_vectors.new.betas
    c.requires.of_vectors c.requires.prefix c.requires.vectors c.in_default.ensures.ok c.in_ok-join.ensures
