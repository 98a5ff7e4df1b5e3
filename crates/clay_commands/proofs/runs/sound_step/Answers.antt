use Rattle.std.proofs.Common.{sym, subst}
use Rattle.beta_tree.specs.Vectors.{IsTree}
use Rattle.clay_commands.specs.Soundness.{IsSound}
use Rattle.clay_commands.proofs.SoundSplits.{sound_after}
use Rattle.clay_commands.proofs.runs.sound_step.Goals as goal

pub returns-in-Ok-clause-sound : goal.returns-in-Ok-clause-sound
returns-in-Ok-clause-sound c =
    let step = c.in-Ok.ensures.ok in
    subst (λ E. IsSound c.args.parameters E) (sym step.draft)
    (sound_after c.args.parameters c.args.i c.args.command.now c.args.leaves.now.items c.requires.sound (subst (λ V. IsTree V) c.requires.vectors c.len-tree.ensures.tree) c.read_size.ensures step.unrefused)
