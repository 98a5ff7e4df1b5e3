use Rattle.std.proofs.Common.{◌↔◌, IsTrue}
use Rattle.farkas_cert.specs.Certificates.{Cleared, IsLight}
use Rattle.farkas_cert.proofs.checks.clears.Given as goal

abbrev pub invariant-loop-k : goal.invariant-loop-k
invariant-loop-k l = record {
  cleared : IsTrue l.cleared ↔ Cleared l.k l.system.rows l.multipliers;
  light : IsLight l.k l.system.rows l.multipliers;
}
