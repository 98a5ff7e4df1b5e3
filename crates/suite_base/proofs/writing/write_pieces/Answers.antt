use Rattle.suite_base.proofs.Pieces.{on_err_of, pieces_part}
use Rattle.suite_base.proofs.writing.write_pieces.Goals as goal

pub returns-in_err-write_all-clause-part : goal.returns-in_err-write_all-clause-part
returns-in_err-write_all-clause-part g c =
    on_err_of c.from_residual.result
    (pieces_part (λ piece. piece.now) c.args.pieces.now c.loop-piece.piece-index _ _ _ _ c.loop-piece-test.true c.loop-piece.invariant.wrote c.in_err-write_all.ensures.part)
