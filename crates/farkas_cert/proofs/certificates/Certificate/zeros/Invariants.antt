use Rattle.std.proofs.Common.{◌≡◌, replicate}
use Rattle.std.specs.Prelude.{pos}
use Rattle.farkas_cert.proofs.certificates.Certificate.zeros.Given as goal

abbrev pub invariant-loop : goal.invariant-loop
invariant-loop l = l.multipliers ≡ replicate l.counter (pos 0)
