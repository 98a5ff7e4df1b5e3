use Rattle.std.proofs.Common.{◌≡◌, take}
use Rattle.clay_commands.specs.Drafts.{leaves_from}
use Rattle.clay_commands.proofs.drafting.draft.Given as goal

abbrev pub invariant-loop-k : goal.invariant-loop-k
invariant-loop-k l = l.leaves.items ≡ leaves_from 1 (take l.k l.betas) (take l.k l.statements)
