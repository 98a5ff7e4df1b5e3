use Rattle.std.proofs.Common.{◌≡◌, drop}
use Rattle.beta_tree.specs.Vectors.{no_statement}
use Rattle.beta_tree.proofs.looks.is_under.Given as goal

abbrev pub invariant-loop-vector : goal.invariant-loop-vector
invariant-loop-vector l = no_statement l.prefix (drop l.vector-index l.vector-items) ≡ no_statement l.prefix l.vectors
