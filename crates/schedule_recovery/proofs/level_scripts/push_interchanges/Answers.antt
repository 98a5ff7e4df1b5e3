use Rattle.std.proofs.Common.{◌≡◌, ◌+◌, ◌++◌, ℕ, List, pos, ◌∷◌, [], length, get_or, take, drop, arith, refl, ap, sym, ◌∙◌, subst}
use Rattle.std.specs.List.{range_with_len}
use Rattle.std.proofs.lemmas.List.{take_at}
use Rattle.beta_tree.proofs.Leaves.{same_vector_yes}
use Rattle.chlore_recover.specs.LevelScripts.{interchanges}
use Rattle.schedule_recovery.specs.Steps.{HasAll}
use Rattle.schedule_recovery.proofs.Exchanges.{after_long, all_after, all_first, below_at, wanted_there}
use Rattle.schedule_recovery.proofs.LevelSteps.{interchange_more, no_interchanges}
use Rattle.schedule_recovery.proofs.level_scripts.push_interchanges.Goals as goal

pub returns-then-is_in_order : goal.returns-then-is_in_order
returns-then-is_in_order c =
    no_interchanges (pos c.args.number ∷ []) c.args.places.now c.args.script.now
    (same_vector_yes c.args.places.now (range_with_len 0 (length c.args.places.now)) (sym c.is_in_order.ensures ∙ c.if-is_in_order.true))

pub loop-k-init : goal.loop-k-init
loop-k-init c = record {
  script = ap (λ z. c.args.script.now ++ interchanges (pos c.args.number ∷ []) 0 z c.args.places.now) c.in_ok-standing.ensures;
  all = subst (HasAll (length c.args.places.now)) (sym c.in_ok-standing.ensures) (all_first (length c.args.places.now));
}

pub push_interchange_where-requires-clause-there : goal.push_interchange_where-requires-clause-there
push_interchange_where-requires-clause-there c =
    let value = c.as_mut_slice.ensures.value in
    let same : c.as_mut_slice.result.now ≡ c.loop-k.standing.items = cc in
    wanted_there (length c.args.places.now) c.loop-k.k c.args.places.now c.loop-k.standing.items c.as_mut_slice.result.now same c.requires c.loop-k-test.true c.loop-k.invariant.all

pub loop-k-preserved : goal.loop-k-preserved
loop-k-preserved c =
    let d : ℕ = length c.args.places.now in
    let wanted : ℕ = get_or c.args.places.now c.loop-k.k 0 in
    let old : List ℕ = c.as_mut_slice.result.now in
    let now : List ℕ = c.push_interchange_where.new.standing in
    let value = c.as_mut_slice.ensures.value in
    let same : c.as_mut_slice.result.now ≡ c.loop-k.standing.items = cc in
    let moved = c.in_ok-push_interchange_where.ensures.standing in
    let long : length now ≡ length old = ap length moved ∙ after_long c.loop-k.k wanted old in
    let len = c.as_mut_slice.ensures.len in
    let back : take c.loop-k.standing.len (now ++ drop (length now) c.loop-k.standing.items) ≡ now = take_at now (drop (length now) c.loop-k.standing.items) c.loop-k.standing.len (omega (arith, long, len)) in
    let whole : HasAll d old = subst (HasAll d) (sym same) c.loop-k.invariant.all in
    let there = whole.there wanted (below_at d c.loop-k.k c.args.places.now c.requires c.loop-k-test.true) in
    let before = subst (λ z. c.loop-k.script ++ interchanges (pos c.args.number ∷ []) c.loop-k.k z (drop c.loop-k.k c.args.places.now) ≡ c.args.script.now ++ interchanges (pos c.args.number ∷ []) 0 (range_with_len 0 d) c.args.places.now) (sym same) c.loop-k.invariant.script in
    record {
      script = subst (λ z. c.push_interchange_where.new.script ++ interchanges (pos c.args.number ∷ []) (c.loop-k.k + 1) z (drop (c.loop-k.k + 1) c.args.places.now) ≡ c.args.script.now ++ interchanges (pos c.args.number ∷ []) 0 (range_with_len 0 d) c.args.places.now) (sym back)
          (interchange_more (pos c.args.number ∷ []) c.loop-k.k wanted c.args.places.now old now c.loop-k.script (c.args.script.now ++ interchanges (pos c.args.number ∷ []) 0 (range_with_len 0 d) c.args.places.now) c.push_interchange_where.new.script c.loop-k-test.true refl
          c.in_ok-push_interchange_where.ensures.script moved before);
      all = subst (HasAll d) (sym back) (subst (HasAll d) (sym moved) (all_after d c.loop-k.k wanted old whole c.loop-k-test.true there));
    }
