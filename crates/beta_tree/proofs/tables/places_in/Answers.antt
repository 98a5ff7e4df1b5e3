use Rattle.std.proofs.Common.{◌≡◌, length, subst, arith}
use Rattle.beta_tree.proofs.Tabled.{Tabled, tabled_none, tabled_more, tabled_all, entry_within}
use Rattle.beta_tree.proofs.tables.places_in.Goals as goal

pub set-requires : goal.set-requires
set-requires c =
    let within = entry_within c.args.order.now c.requires.permutes c.loop-k.k 0 c.loop-k-test.true in
    let long = c.loop-k.invariant.long in
    omega arith

pub loop-k-init : goal.loop-k-init
loop-k-init c = rw c.in_ok-places.ensures (tabled_none c.args.order.now)

pub loop-k-preserved : goal.loop-k-preserved
loop-k-preserved c = rw c.set.ensures.items (tabled_more c.args.order.now c.requires.permutes c.loop-k.k 0 c.loop-k.places c.loop-k-test.true c.loop-k.invariant)

pub returns : goal.returns
returns c =
    let i : c.loop-k.k ≡ length c.args.order.now = let l = c.loop-k-test.false in let m = c.loop-k.auto.k-end in omega arith in
    tabled_all c.args.order.now c.loop-k.places c.requires.permutes (subst (λ z. Tabled c.args.order.now z c.loop-k.places) i c.loop-k.invariant)
