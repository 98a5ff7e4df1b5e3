use Rattle.std.proofs.Common.{ap, sym, ◌∙◌}
use Rattle.beta_tree.specs.Answers.{fission_answer}
use Rattle.clay_commands.specs.Arguments.{natural}
use Rattle.clay_commands.proofs.Clamps.{clamped_fission}
use Rattle.clay_commands.proofs.vector_steps.fission.Goals as goal

pub returns-in-Ok-clause-ok : goal.returns-in-Ok-clause-ok
returns-in-Ok-clause-ok c =
    sym (clamped_fission c.args.prefix.now (natural c.args.c) c.args.betas.now c.len-tree.ensures.tree)
    ∙ sym (ap (λ n. fission_answer c.args.prefix.now n c.args.betas.now) c.clamped.ensures) ∙ c.in-Ok.ensures.ok
