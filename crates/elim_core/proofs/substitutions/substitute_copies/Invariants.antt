use Rattle.std.proofs.Common.{◌≡◌, ◌++◌, drop}
use Rattle.elim_core.specs.Elimination.{substituted}
use Rattle.elim_core.proofs.substitutions.substitute_copies.Given as goal

abbrev pub invariant-loop-k : goal.invariant-loop-k
invariant-loop-k g l = l.made.items ++ substituted l.j l.e (drop l.k l.tableau.rows) ≡ substituted l.j l.e l.tableau.rows
