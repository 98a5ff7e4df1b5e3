-- One SCoP as the old and the new one: its statements stand under their own schedules.
use Rattle.std.proofs.Common.{◌≡◌, ℕ, suc, zero, ◌+◌, ◌<◌, List, [], ◌∷◌, ◌++◌, length, refl, ap, sym, ◌∙◌, subst, arith}
use Rattle.std.specs.List.{range_with_len}
use Rattle.scop_core.specs.ScopData.{ScopData}
use Rattle.dependence_systems.specs.declared.dependences.Dep.{Dep}
use Rattle.dependence_systems.specs.Entries.{entries, IsTooMany}
use Rattle.dependence_systems.specs.Sides.{sides, own_sides}
use Rattle.dependence_systems.specs.Originals.{HasOriginals, own_originals}
use Rattle.dependence_systems.proofs.ScopPairs.{originals_are_own}

pub own_has : (S : ScopData) (originals : List ℕ) → originals ≡ own_originals S → HasOriginals S S originals
own_has S originals e = subst (λ xs. HasOriginals S S xs) (sym e) (originals_are_own S).has

pub own_same : (S : ScopData) (originals : List ℕ) → originals ≡ own_originals S → sides S S originals ≡ own_sides S
own_same S originals e = ap (λ xs. sides S S xs) e ∙ (originals_are_own S).same

range_more : (k a : ℕ) → range_with_len a (suc k) ≡ range_with_len a k ++ (a + k) ∷ []
range_more zero a = ap (λ n. n ∷ []) (let e : a ≡ a + 0 = omega arith in e)
range_more (suc k) a =
    let e : a + 1 + k ≡ a + suc k = omega arith in
    ap (λ t. a ∷ t) (range_more k (a + 1) ∙ ap (λ n. range_with_len (a + 1) k ++ n ∷ []) e)

pub one_more_number : (k : ℕ) → range_with_len 1 k ++ (k + 1) ∷ [] ≡ range_with_len 1 (k + 1)
one_more_number k =
    let e : 1 + k ≡ k + 1 = omega arith in
    let f : suc k ≡ k + 1 = omega arith in
    ap (λ n. range_with_len 1 k ++ n ∷ []) (sym e) ∙ (sym (range_more k 1) ∙ ap (λ n. range_with_len 1 n) f)
