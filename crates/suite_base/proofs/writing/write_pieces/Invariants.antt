use Rattle.std.proofs.Common.{◌≤◌, take}
use Rattle.std.specs.List.{flat_map}
use Rattle.suite_base.specs.Outside.{Wrote}
use Rattle.suite_base.proofs.writing.write_pieces.Given as goal

abbrev pub invariant-loop-piece : goal.invariant-loop-piece
invariant-loop-piece g l = record {
  wrote : Wrote (g.S.Sink.written l.fn.sink) (flat_map (λ piece. piece.now) (take l.piece-index l.pieces)) (g.S.Sink.written l.sink);
  grows : g.S.Sink.faults l.fn.sink ≤ g.S.Sink.faults l.sink;
}
