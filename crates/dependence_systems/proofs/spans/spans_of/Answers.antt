use Rattle.std.proofs.Common.{ap, sym, ◌∙◌, subst}
use Rattle.dependence_systems.specs.Spans.{Covers}
use Rattle.dependence_systems.proofs.SpanLaws.{cover_each_more}
use Rattle.dependence_systems.proofs.spans.spans_of.Goals as goal

pub loop-k-preserved : goal.loop-k-preserved
loop-k-preserved c =
    cover_each_more c.args.statements.now c.loop-k.k c.loop-k.spans c.push.new.self c.span_of.result c.index-statements-k.result c.loop-k-test.true c.index-statements-k.is
    (subst (λ xs. Covers c.span_of.result xs) (c.as_slice.ensures ∙ sym (ap (λ s. s.accesses) c.index-statements-k.is)) c.span_of.ensures) c.loop-k.invariant c.in_ok-push.ensures.ok
