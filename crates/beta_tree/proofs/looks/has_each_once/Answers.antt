use Rattle.std.proofs.Common.{◌≡◌, ◌<◌, ◌≤◌, true, false, length, get_or, sym, subst, ◌∙◌, arith}
use Rattle.std.proofs.lemmas.Option.{get_or_from_slice_get}
use Rattle.std.proofs.lemmas.List.{take_more}
use Rattle.std.proofs.Math.Seq.{take-length}
use Rattle.beta_tree.proofs.Marks.{Marked, marked_none, marked_more, marked_all, lacks_large, lacks_twice}
use Rattle.beta_tree.proofs.looks.has_each_once.Goals as goal

pub loop-entry-init : goal.loop-entry-init
loop-entry-init c = rw c.requires (marked_none _)

pub returns-then-k-len : goal.returns-then-k-len
returns-then-k-len c =
    let long : length c.loop-entry.seen ≡ length c.args.order.now = c.loop-entry.invariant.long in
    let large : length c.args.order.now ≤ get_or c.args.order.now c.loop-entry.entry-index 0 =
    let e = c.len.ensures in let l = c.if-k-len.true in omega arith in
    sym (lacks_large c.args.order.now c.loop-entry.entry-index 0 c.loop-entry-test.true large)

pub returns-then-set : goal.returns-then-set
returns-then-set c =
    let was : get_or c.loop-entry.seen (get_or c.args.order.now c.loop-entry.entry-index 0) false ≡ true =
    get_or_from_slice_get c.loop-entry.seen (get_or c.args.order.now c.loop-entry.entry-index 0) _ false c.set.ensures.answer ∙ c.if-set.true in
    sym (lacks_twice c.args.order.now c.loop-entry.entry-index 0 c.loop-entry-test.true (c.loop-entry.invariant.came (get_or c.args.order.now c.loop-entry.entry-index 0) was))

pub loop-entry-preserved : goal.loop-entry-preserved
loop-entry-preserved c =
    let was : get_or c.loop-entry.seen (get_or c.args.order.now c.loop-entry.entry-index 0) false ≡ false =
    get_or_from_slice_get c.loop-entry.seen (get_or c.args.order.now c.loop-entry.entry-index 0) _ false c.set.ensures.answer ∙ c.if-set.false in
    let within : get_or c.args.order.now c.loop-entry.entry-index 0 < length c.loop-entry.seen =
    let e = c.len.ensures in let l = c.if-k-len.false in omega arith in
    rw (c.set.ensures.items, take_more c.args.order.now c.loop-entry.entry-index 0 c.loop-entry-test.true)
    (marked_more _ _ _ _ c.loop-entry.invariant within was)

pub returns : goal.returns
returns c =
    let i : c.loop-entry.entry-index ≡ length c.args.order.now = let l = c.loop-entry-test.false in let m = c.loop-entry.auto.entry-index-end in omega arith in
    let all : Marked (length c.args.order.now) c.args.order.now c.loop-entry.seen =
    subst (λ z. Marked (length c.args.order.now) z c.loop-entry.seen) (rw i (take-length c.args.order.now)) c.loop-entry.invariant in
    sym (marked_all _ _ all)
