use Rattle.std.proofs.Common.{◌≡◌, ◌≤◌, ◌-◌, drop, length}
use Rattle.suite_base.specs.Words.{words}
use Rattle.farkas_cert.specs.Texts.{prepended, multipliers_read, certificate_read}
use Rattle.farkas_cert.proofs.texts.read_cert.Given as goal

abbrev pub invariant-loop-start : goal.invariant-loop-start
invariant-loop-start l = record {
  left : prepended l.certificate (multipliers_read (words (drop l.from l.line))) ≡ certificate_read l.line;
  within : l.from ≤ length l.line;
}

abbrev pub decreases-loop-start : goal.decreases-loop-start
decreases-loop-start l = length l.line - l.from
