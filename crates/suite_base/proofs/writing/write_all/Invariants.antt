use Rattle.std.proofs.Common.{◌-◌, ◌≤◌, length, take}
use Rattle.suite_base.specs.Outside.{Wrote}
use Rattle.suite_base.proofs.writing.write_all.Given as goal

abbrev pub invariant-loop-done : goal.invariant-loop-done
invariant-loop-done g l = record {
  within : l.done ≤ length l.bytes;
  wrote : Wrote (g.S.Sink.written l.fn.sink) (take l.done l.bytes) (g.S.Sink.written l.sink);
  grows : g.S.Sink.faults l.fn.sink ≤ g.S.Sink.faults l.sink;
}

abbrev pub decreases-loop-done : goal.decreases-loop-done
decreases-loop-done g l = length l.bytes - l.done
