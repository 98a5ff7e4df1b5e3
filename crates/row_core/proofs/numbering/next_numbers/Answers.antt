use Rattle.std.proofs.Common.{◌≡◌, ◌<◌, ◌^◌, ◌++◌, ◌∷◌, [], true, refl, get_or, subst, rules}
use Rattle.std.specs.Ordering.{int_eq}
use Rattle.std.specs.List.{All}
use Rattle.std.proofs.lemmas.List.Elements.{All-tail}
use Rattle.row_core.proofs.DenseSlices.{step_agrees, joined, ended_made}
use Rattle.row_core.proofs.numbering.next_numbers.Goals as goal

pub loop-vector-preserved : goal.loop-vector-preserved
loop-vector-preserved c =
    let i = c.in-len1-up.len_at_least in
    let j = c.in-len1-up-former.len_at_least in
    let k = c.in-len1-up-numbers.len_at_least in
    let inv = c.loop-vector.invariant in
    let equal : int_eq c.old-item.result c.new-item.result ≡ true = search rules in
    let step = step_agrees c.loop-vector.former.now c.loop-vector.numbers.now c.loop-vector.vector.now c.old-item.result c.new-item.result j k i c.old-item.is c.new-item.is equal in
    let pushed : c.push-in-len1-up.new.self ≡ c.loop-vector.made ++ get_or c.loop-vector.numbers.now 0 0 ∷ [] = search rules in
    record {
      done = joined _ _ _ _ _ _ _ pushed refl step inv.done;
      few = All-tail (λ n. n < 2 ^ 32) _ _ (subst (All (λ n. n < 2 ^ 32)) step inv.few);
    }

pub returns : goal.returns
returns c = ended_made c.loop-vector.made _ c.loop-vector.former.now c.loop-vector.numbers.now c.loop-vector.vector.now c.in_default.len_below c.loop-vector.invariant.done
