use Rattle.dependence_systems.proofs.SpanLaws.{covers_more}
use Rattle.dependence_systems.proofs.spans.span_of.Goals as goal

pub loop-k-preserved : goal.loop-k-preserved
loop-k-preserved c =
    covers_more c.args.accesses.now c.loop-k.k c.loop-k.span c.widened-span.result c.index-accesses-k.result c.loop-k-test.true c.index-accesses-k.is
    c.widened-span.ensures.wider c.widened-span.ensures.inside c.loop-k.invariant
