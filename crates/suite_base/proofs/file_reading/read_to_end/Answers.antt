use Rattle.std.proofs.Common.{arith, ◌∙◌, ◌≤◌, length}
use Rattle.suite_base.proofs.Pieces.{on_err_of, took_more, took_up_to_more}
use Rattle.suite_base.proofs.file_reading.read_to_end.Goals as goal

pub returns-in_err-read_piece-clause-taken : goal.returns-in_err-read_piece-clause-taken
returns-in_err-read_piece-clause-taken g c =
    let h = c.in_err-read_piece.ensures.taken in
    let room : length c.loop-files.text ≤ 16777216 = omega arith in
    on_err_of c.from_residual.result (took_up_to_more 16777217 _ _ _ _ _ c.loop-files.invariant.took h (omega arith))

pub loop-files-preserved : goal.loop-files-preserved
loop-files-preserved g c =
    let h = c.in_ok-read_piece.ensures.took in
    record {
      within = c.in_ok-read_piece.ensures.within;
      took = rw h.2 (took_more _ _ _ _ _ c.loop-files.invariant.took h.3);
      stays = c.in_ok-read_piece.ensures.stays;
      held = c.in_ok-read_piece.ensures.held ∙ c.loop-files.invariant.held;
      grows = omega arith;
    }
