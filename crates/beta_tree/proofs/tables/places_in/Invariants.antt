use Rattle.beta_tree.proofs.Tabled.{Tabled}
use Rattle.beta_tree.proofs.tables.places_in.Given as goal

abbrev pub invariant-loop-k : goal.invariant-loop-k
invariant-loop-k l = Tabled l.order l.k l.places
