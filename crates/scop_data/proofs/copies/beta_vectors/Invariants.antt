use Rattle.std.proofs.Common.{◌≡◌, ◌++◌, drop}
use Rattle.scop_data.specs.ScopData.{betas_in}
use Rattle.scop_data.proofs.copies.beta_vectors.Given as goal

abbrev pub invariant-loop-item : goal.invariant-loop-item
invariant-loop-item l = l.made ++ betas_in (drop l.item-index l.items) ≡ betas_in l.items
