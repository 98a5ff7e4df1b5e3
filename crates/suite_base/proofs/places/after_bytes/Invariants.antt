use Rattle.std.proofs.Common.{◌≡◌, ◌+◌, ◌-◌, ◌<◌, ◌^◌, length, drop}
use Rattle.suite_base.specs.Places.{after_bytes}
use Rattle.suite_base.proofs.places.after_bytes.Given as goal

abbrev pub invariant-loop-b : goal.invariant-loop-b
invariant-loop-b l = record {
  same : after_bytes l.place (drop l.b-index l.bytes) ≡ after_bytes l.fn.place l.bytes;
  line : l.place.line + (length l.bytes - l.b-index) < 2 ^ 32;
  column : l.place.column + (length l.bytes - l.b-index) < 2 ^ 32;
}
