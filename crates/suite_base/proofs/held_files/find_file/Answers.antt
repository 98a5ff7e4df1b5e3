use Rattle.std.proofs.Common.{◌∙◌, sym}
use Rattle.suite_base.proofs.FilesUnder.{under_here, under_later}
use Rattle.suite_base.proofs.held_files.find_file.Goals as goal

pub returns-then-eq : goal.returns-then-eq
returns-then-eq c =
    sym c.loop-k.invariant
    ∙ under_here _ _ _ c.index-files-k.result c.loop-k-test.true (rw (← c.bytes.ensures, ← c.as_bytes.ensures.value) (sym c.eq.ensures ∙ c.if-eq.true))

pub loop-k-preserved : goal.loop-k-preserved
loop-k-preserved c =
    under_later _ _ _ c.index-files-k.result c.loop-k-test.true (rw (← c.bytes.ensures, ← c.as_bytes.ensures.value) (sym c.eq.ensures ∙ c.if-eq.false))
    ∙ c.loop-k.invariant
