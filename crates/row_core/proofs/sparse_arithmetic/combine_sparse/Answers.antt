use Rattle.std.specs.Prelude.{◌+◌, ◌≡◌, ◌<◌, ◌≤◌, ◌^◌, [], ◌∷◌, ◌++◌, length}
use Rattle.std.proofs.Common.{rules, arith}
use Rattle.row_core.specs.Rows.{pair_weight}
use Rattle.row_core.proofs.Rows.{from_heavy}
use Rattle.row_core.proofs.Merging.{merged_none, merged_zeros, merged_next, merged_heavy, merged_all, left_begins, right_begins, not_heavy}
use Rattle.row_core.proofs.sparse_arithmetic.combine_sparse.Goals as goal

pub loop-k-init : goal.loop-k-init
loop-k-init c =
    let m = merged_none c.args.p c.args.a.now c.args.q c.args.b.now c.in-Ok.row c.entries-3.result.now c.entries-4.result.now c.in-Ok.ensures c.entries-3.ensures c.entries-4.ensures in
    let p = c.pass_zeros-k.ensures in
    merged_zeros 0 c.pass_zeros-k.result c.args.p c.args.a.now c.args.q c.args.b.now c.in-Ok.row c.pass_zeros-k.new.row c.entries-3.result.now c.entries-4.result.now c.requires m
    p.row p.more (omega arith) p.left p.right

pub returns-in-None-clause-overflow : goal.returns-in-None-clause-overflow
returns-in-None-clause-overflow c = λ _.
    let f : c.loop-k.k < length c.args.a.now = omega arith in
    let w : 2 ^ 127 ≤ pair_weight c.args.p c.take_at-x.result c.args.q c.take_at-y.result = c.in-None.ensures in
    merged_heavy c.loop-k.k c.args.p c.args.a.now c.args.q c.args.b.now c.loop-k.row c.loop-k.left.entries.now c.loop-k.right.entries.now c.take_at-x.result c.take_at-y.result c.requires c.loop-k.invariant
    f c.take_at-x.ensures.answer c.take_at-y.ensures.answer w

pub returns-in-None-clause-heavy : goal.returns-in-None-clause-heavy
returns-in-None-clause-heavy c = λ e. from_heavy _ _ _ _ (returns-in-None-clause-overflow c e)

pub pass_zeros-k-requires-in-loop-k-clause-left : goal.pass_zeros-k-requires-in-loop-k-clause-left
pass_zeros-k-requires-in-loop-k-clause-left c =
    let f : c.loop-k.k < length c.args.a.now = omega arith in
    let longer : c.push.new.self ≡ c.loop-k.row ++ c.in-Some.entry ∷ [] = search rules in
    let m = merged_next c.loop-k.k c.args.p c.args.a.now c.args.q c.args.b.now c.loop-k.row c.push.new.self c.loop-k.left.entries.now c.loop-k.right.entries.now c.take_at-x.new.rest.entries.now c.take_at-y.new.rest.entries.now
    c.take_at-x.result c.take_at-y.result c.in-Some.entry c.requires c.loop-k.invariant f c.take_at-x.ensures.answer c.take_at-y.ensures.answer c.take_at-x.ensures.rest c.take_at-y.ensures.rest c.in-Some.ensures.0 c.in-Some.ensures.1 longer in
    left_begins _ _ _ _ _ _ _ _ m

pub pass_zeros-k-requires-in-loop-k-clause-right : goal.pass_zeros-k-requires-in-loop-k-clause-right
pass_zeros-k-requires-in-loop-k-clause-right c =
    let f : c.loop-k.k < length c.args.a.now = omega arith in
    let longer : c.push.new.self ≡ c.loop-k.row ++ c.in-Some.entry ∷ [] = search rules in
    let m = merged_next c.loop-k.k c.args.p c.args.a.now c.args.q c.args.b.now c.loop-k.row c.push.new.self c.loop-k.left.entries.now c.loop-k.right.entries.now c.take_at-x.new.rest.entries.now c.take_at-y.new.rest.entries.now
    c.take_at-x.result c.take_at-y.result c.in-Some.entry c.requires c.loop-k.invariant f c.take_at-x.ensures.answer c.take_at-y.ensures.answer c.take_at-x.ensures.rest c.take_at-y.ensures.rest c.in-Some.ensures.0 c.in-Some.ensures.1 longer in
    right_begins _ _ _ _ _ _ _ _ m

pub loop-k-preserved : goal.loop-k-preserved
loop-k-preserved c =
    let f : c.loop-k.k < length c.args.a.now = omega arith in
    let longer : c.push.new.self ≡ c.loop-k.row ++ c.in-Some.entry ∷ [] = search rules in
    let m = merged_next c.loop-k.k c.args.p c.args.a.now c.args.q c.args.b.now c.loop-k.row c.push.new.self c.loop-k.left.entries.now c.loop-k.right.entries.now c.take_at-x.new.rest.entries.now c.take_at-y.new.rest.entries.now
    c.take_at-x.result c.take_at-y.result c.in-Some.entry c.requires c.loop-k.invariant f c.take_at-x.ensures.answer c.take_at-y.ensures.answer c.take_at-x.ensures.rest c.take_at-y.ensures.rest c.in-Some.ensures.0 c.in-Some.ensures.1 longer in
    let p = c.pass_zeros-k-in-loop-k.ensures in
    merged_zeros (c.loop-k.k + 1) c.pass_zeros-k-in-loop-k.result c.args.p c.args.a.now c.args.q c.args.b.now c.push.new.self c.pass_zeros-k-in-loop-k.new.row c.take_at-x.new.rest.entries.now c.take_at-y.new.rest.entries.now c.requires m
    p.row p.more (omega arith) p.left p.right

pub returns-clause-fits : goal.returns-clause-fits
returns-clause-fits c =
    let m = merged_all c.loop-k.k c.args.p c.args.a.now c.args.q c.args.b.now c.loop-k.row c.loop-k.left.entries.now c.loop-k.right.entries.now c.loop-k.invariant (omega arith) in
    not_heavy _ _ _ _ m.light
