use Rattle.clay_commands.proofs.steps.edit_vectors.Goals as goal

pub returns-in-Fission-clause-cause : goal.returns-in-Fission-clause-cause
returns-in-Fission-clause-cause c = rw c.in-Fission.is c.fission.ensures.cause

pub returns-in-Reorder-clause-cause : goal.returns-in-Reorder-clause-cause
returns-in-Reorder-clause-cause c = rw (c.in-Reorder.is, ← c.as_slice.ensures.answer) c.reorder.ensures.cause
