use Rattle.std.proofs.Common.{arith, length-drop}
use Rattle.std.proofs.lemmas.List.{take_rest}
use Rattle.c_lexer.proofs.TokenLemmas.{gap_goes}
use Rattle.c_lexer.proofs.cuts.gap.Goals as goal

pub loop-left-preserved : goal.loop-left-preserved
loop-left-preserved c =
    let z = c.loop-left.left.now in
    let n = c.separator_len-length.result in
    let goes = gap_goes z n c.separator_len-length.ensures.value (omega arith) c.separator_len-length.ensures.within in
    let kept = c.loop-left.invariant.same in
    rw (take_rest z n) (record { same = omega (arith, goes, kept, length-drop n z); within = omega (arith, length-drop n z) })
