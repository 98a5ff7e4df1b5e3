use Rattle.std.proofs.Common.{◌≡◌, ◌≤◌, ◌+◌, drop, length}
use Rattle.beta_trails.specs.Trails.{agreement}
use Rattle.schedule_recovery.proofs.lookups.agreement.Given as goal

abbrev pub invariant-loop-k : goal.invariant-loop-k
invariant-loop-k l = record {
  so_far : l.k + agreement (drop l.k l.u) (drop l.k l.v) ≡ agreement l.u l.v;
  within : l.k ≤ length l.v;
}
