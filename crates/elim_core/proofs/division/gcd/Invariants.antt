use Rattle.std.proofs.Common.{◌<◌, ◌^◌, ℕ}
use Rattle.std.specs.Int.{IsGcd}
use Rattle.elim_core.proofs.division.gcd.Given as goal

abbrev pub invariant-loop-b : goal.invariant-loop-b
invariant-loop-b l = record {
  left : l.a < 2 ^ 127;
  right : l.b < 2 ^ 127;
  kept : (g : ℕ) → IsGcd l.a l.b g → IsGcd l.first l.second g;
}

abbrev pub decreases-loop-b : goal.decreases-loop-b
decreases-loop-b l = l.b
