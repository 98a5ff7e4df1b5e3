use Rattle.std.proofs.Common.{◌≡◌, ◌∙◌, ◌++◌, ◌∷◌, [], ◌+◌, ℕ, suc, take, ap, sym, arith}
use Rattle.clan_extract.specs.Scops.{levels}
use Rattle.clan_walk.specs.Walk.{signs}
use Rattle.std.proofs.lemmas.List.{take_all}
use Rattle.clan_walk.proofs.Scattered.{next_level, all_levels}
use Rattle.clan_walk.proofs.scatterings.levels_of.Goals as goal

one_more : (k : ℕ) → suc k ≡ k + 1
one_more k = omega arith

pub loop-k-preserved : goal.loop-k-preserved
loop-k-preserved c =
    c.in_ok-push.ensures.ok ∙ ap (λ made. made ++ c.in_ok-value.value ∷ []) c.loop-k.invariant
    ∙ ap (λ value. take c.loop-k.k (levels c.args.parameters (signs c.args.turns.now)) ++ value ∷ []) c.in_ok-value.ensures
    ∙ sym (next_level c.args.parameters c.args.turns.now c.loop-k.k _ c.loop-k-test.true)
    ∙ ap (λ n. take n (levels c.args.parameters (signs c.args.turns.now))) (one_more c.loop-k.k)

pub returns : goal.returns
returns c = c.loop-k.invariant ∙ take_all c.loop-k.k (levels c.args.parameters (signs c.args.turns.now)) (omega (arith, c.loop-k-test.false, all_levels c.args.parameters c.args.turns.now))
