use Rattle.std.proofs.Common.{arith, sym, take, drop}
use Rattle.std.proofs.lemmas.List.{take-append-drop}
use Rattle.suite_base.proofs.Pieces.{on_err_of, wrote_more, first_more, within_rest}
use Rattle.suite_base.proofs.writing.write_all.Goals as goal

pub returns-in_err-done-clause-part : goal.returns-in_err-done-clause-part
returns-in_err-done-clause-part g c =
    let e = c.in_err-done.ensures.err in
    on_err_of c.from_residual.result
    (take c.loop-done.done c.args.bytes.now, drop c.loop-done.done c.args.bytes.now, sym (take-append-drop c.loop-done.done c.args.bytes.now), rw e c.loop-done.invariant.wrote)

pub loop-done-preserved : goal.loop-done-preserved
loop-done-preserved g c =
    record {
      within = within_rest c.args.bytes.now _ _ c.loop-done.invariant.within c.in_ok-done.ensures.within;
      wrote = rw (first_more c.args.bytes.now c.loop-done.done c.in_ok-done.field-0) (wrote_more _ _ _ _ _ c.loop-done.invariant.wrote c.in_ok-done.ensures.wrote);
      grows = let e = c.in_ok-done.ensures.grows in omega arith;
    }
