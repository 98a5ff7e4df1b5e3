use Rattle.farkas_cert.specs.Certificates.{BeginsAt}
use Rattle.farkas_cert.proofs.checks.first_factor.Given as goal

abbrev pub invariant-loop-i : goal.invariant-loop-i
invariant-loop-i l = BeginsAt l.multipliers l.i
