use Rattle.region_extract.proofs.Spacing.{gap_more, plain_more}
use Rattle.region_extract.proofs.spaces.spaced.Goals as goal

pub loop-first-preserved-then-plain-gt0 : goal.loop-first-preserved-then-plain-gt0
loop-first-preserved-then-plain-gt0 c =
    plain_more c.loop-first.spaced _ c.loop-first.rest.now c.args.text.now c.plain_len-plain.result c.in_ok-push_bytes.ensures.ok c.plain_len-plain.ensures.value
    c.loop-first.invariant

pub loop-first-preserved : goal.loop-first-preserved
loop-first-preserved c =
    gap_more c.loop-first.spaced _ c.loop-first.rest.now c.args.text.now c.gap-length.result c.in_ok-push-2.ensures.ok c.gap-length.ensures.value c.if-length-eq0.false
    c.loop-first.invariant
