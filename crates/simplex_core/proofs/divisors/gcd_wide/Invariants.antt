use Rattle.simplex_core.proofs.divisors.gcd_wide.Given as goal

abbrev pub decreases-loop-b : goal.decreases-loop-b
decreases-loop-b l = l.b
