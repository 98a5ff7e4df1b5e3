use Rattle.std.proofs.Common.{◌≡◌, take, map, pos}
use Rattle.clay_commands.proofs.drafting.betas_from_vector.Given as goal

abbrev pub invariant-loop-entry : goal.invariant-loop-entry
invariant-loop-entry l = l.made ≡ map (λ b. pos b) (take l.entry-index l.vector)
