use Rattle.std.proofs.Common.{◌++◌, ap, sym, ◌∙◌, append-nil}
use Rattle.scop_core.specs.LevelOrder.{common_loops, is_textually_before}
use Rattle.dependence_systems.specs.Sides.{under}
use Rattle.dependence_systems.specs.Entries.{ends_of}
use Rattle.dependence_systems.proofs.SpanLaws.{none_among}
use Rattle.dependence_systems.proofs.listing.push_between.Goals as goal

pub returns-then-not-in_text-clause-entries : goal.returns-then-not-in_text-clause-entries
returns-then-not-in_text-clause-entries c =
    let p = c.as_slice-betas.ensures in
    let q = c.as_slice-others.ensures in
    let common = sym (ap (λ z. common_loops z c.as_slice-others.result.now) p ∙ ap (λ z. common_loops c.args.before.now.betas z) q) ∙ sym c.count_common-common.ensures.answer ∙ c.if-common-eq0.true in
    let text = sym (ap (λ z. is_textually_before z c.as_slice-others.result.now) p ∙ ap (λ z. is_textually_before c.args.before.now.betas z) q) ∙ sym c.if-not-in_text.ensures in
    sym (ap (λ t. c.args.list.now ++ t)
    (none_among (ends_of (c.args.source, under c.args.first.now c.args.before.now) (c.args.target, under c.args.second.now c.args.after.now)) c.args.first.now.accesses c.args.second.now.accesses common text)
    ∙ append-nil c.args.list.now)
