use Rattle.std.proofs.Common.{◌↔◌, drop}
use Rattle.farkas_cert.specs.Certificates.{Allowed}
use Rattle.farkas_cert.proofs.checks.is_allowed.Given as goal

abbrev pub invariant-loop-i : goal.invariant-loop-i
invariant-loop-i l = Allowed (drop l.i l.system.rows) (drop l.i l.multipliers) ↔ Allowed l.system.rows l.multipliers
