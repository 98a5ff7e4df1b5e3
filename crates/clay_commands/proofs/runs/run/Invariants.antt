use Rattle.std.proofs.Common.{◌≡◌, ◌+◌, drop}
use Rattle.clay_commands.specs.Drafts.{betas_of, drafts_after}
use Rattle.clay_commands.specs.Refusals.{first_refusal}
use Rattle.clay_commands.specs.Soundness.{IsSound}
use Rattle.clay_commands.proofs.runs.run.Given as goal

abbrev pub invariant-loop-k : goal.invariant-loop-k
invariant-loop-k l = record {
  sound : IsSound l.parameters l.leaves.items;
  vectors : l.betas ≡ betas_of l.leaves.items;
  refusals : first_refusal l.parameters (l.k + 1) (drop l.k l.script) l.leaves.items ≡ first_refusal l.parameters 1 l.script l.initial.leaves.items;
  drafts : drafts_after (drop l.k l.script) l.leaves.items ≡ drafts_after l.script l.initial.leaves.items;
}
