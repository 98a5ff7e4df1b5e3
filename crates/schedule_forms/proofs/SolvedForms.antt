-- Steps of the tests and of the builders of the solved form.
use Rattle.std.proofs.Common.{◌≡◌, ℕ, zero, suc, ◌+◌, ◌-◌, ◌*◌, ◌<◌, ◌≤◌, Bool, true, false, ◌&&◌, List, [], ◌∷◌, length, ℤ, refl, ap, sym, ◌∙◌, arith, add-one, get_or, ◌++◌, append_assoc, subst, zero-add}
use Rattle.std.specs.Bool.{Decides}
use Rattle.std.proofs.lemmas.List.{length-append}
use Rattle.std.specs.Ordering.{int_eq}
use Rattle.std.proofs.lemmas.Bool.Decides.{Decides-int_eq, same_from_decides}
use Rattle.relation_core.specs.Systems.{System}
use Rattle.scop_data.specs.declared.affines.Affine.{Affine}
use Rattle.scop_data.specs.declared.schedules.Floor.{Floor}
use Rattle.scop_data.specs.SolvedRows.{PairFits, PairsFit}
use Rattle.schedule_forms.specs.SolvedForm.{each_below, value_at, floor_at, levels_from, betas_from, floors_from, values_from}

pub int_eq_decides : (a b : ℤ) → Decides (int_eq a b) (a ≡ b)
int_eq_decides a b = Decides-int_eq a b

pub remainder_test : (r : Bool) (a b : ℤ) → Decides r (a ≡ b) → r ≡ int_eq a b
remainder_test r a b d = same_from_decides r (int_eq a b) d (Decides-int_eq a b)

pub each_more : (test : ℕ → Bool) (k : ℕ) → each_below test (k + 1) ≡ (each_below test k && test k)
each_more test k = rw add-one refl

shifted : (j k : ℕ) → suc j + k ≡ j + suc k
shifted j k = omega arith

less_suc : (n k : ℕ) → k < n → n - k ≡ suc (n - (k + 1))
less_suc n k h = omega arith

-- once one more item is made, what is left is one less
next_made : {X : Type 0} (made new rest more whole : List X) (x : X) → new ≡ made ++ x ∷ [] → rest ≡ x ∷ more → made ++ rest ≡ whole → new ++ more ≡ whole
next_made made new rest more whole x e r w = rw (e, append_assoc) (ap (λ t. made ++ t) (sym r) ∙ w)

pub levels_more : (part : System) (n k : ℕ) (made new whole : List Affine) → k < n → new ≡ made ++ value_at part (2 * k + 1) ∷ []
    → made ++ levels_from part k (n - k) ≡ whole → new ++ levels_from part (k + 1) (n - (k + 1)) ≡ whole
levels_more part n k made new whole h e w =
    next_made made new _ _ whole (value_at part (2 * k + 1)) e (ap (λ m. levels_from part k m) (less_suc n k h)) w

pub betas_more : (part : System) (n k : ℕ) (made new whole : List ℤ) → k < n → new ≡ made ++ (value_at part (2 * k)).constant ∷ []
    → made ++ betas_from part k (n - k) ≡ whole → new ++ betas_from part (k + 1) (n - (k + 1)) ≡ whole
betas_more part n k made new whole h e w =
    next_made made new _ _ whole (value_at part (2 * k)).constant e (ap (λ m. betas_from part k m) (less_suc n k h)) w

pub floors_more : (part : System) (n k : ℕ) (made new whole : List Floor) → k < n → new ≡ made ++ floor_at part k ∷ []
    → made ++ floors_from part k (n - k) ≡ whole → new ++ floors_from part (k + 1) (n - (k + 1)) ≡ whole
floors_more part n k made new whole h e w =
    next_made made new _ _ whole (floor_at part k) e (ap (λ m. floors_from part k m) (less_suc n k h)) w

pub values_more : (part : System) (n k : ℕ) (made new whole : List Affine) → k < n → new ≡ made ++ value_at part (k + 1) ∷ []
    → made ++ values_from part (k + 1) (n - k) ≡ whole → new ++ values_from part (k + 1 + 1) (n - (k + 1)) ≡ whole
values_more part n k made new whole h e w =
    next_made made new _ _ whole (value_at part (k + 1)) e (ap (λ m. values_from part (k + 1) m) (less_suc n k h)) w

pairs_from : (j : ℕ) → List Floor → Type 0
pairs_from j floors = (k : ℕ) (floor : Floor) → k < length floors → PairFits (j + k) (get_or floors k floor)

pairs_last : (j : ℕ) (floors : List Floor) (x : Floor) → pairs_from j floors → PairFits (j + length floors) x → pairs_from j (floors ++ x ∷ [])
unfolding pairs_from
pairs_last j [] x all last zero d h = last
pairs_last j [] x all last (suc k) d h = absurd (omega arith)
pairs_last j (f ∷ floors) x all last zero d h = all zero d (omega arith)
pairs_last j (f ∷ floors) x all last (suc k) d h =
    subst (λ m. PairFits m (get_or (floors ++ x ∷ []) k d)) (shifted j k)
    (pairs_last (suc j) floors x (λ i e l. subst (λ m. PairFits m (get_or floors i e)) (sym (shifted j i)) (all (suc i) e (omega arith)))
    (subst (λ m. PairFits m x) (sym (shifted j (length floors))) last) k d (omega arith))

pub pairs_push : (floors new : List Floor) (x : Floor) → new ≡ floors ++ x ∷ [] → PairFits (length floors) x → PairsFit floors → PairsFit new
unfolding pairs_from
pairs_push floors new x e last all =
    rw e (λ k d h. subst (λ m. PairFits m (get_or (floors ++ x ∷ []) k d)) (zero-add k)
    (pairs_last zero floors x (λ i d' l. subst (λ m. PairFits m (get_or floors i d')) (sym (zero-add i)) (all i d' l))
    (subst (λ m. PairFits m x) (sym (zero-add (length floors))) last) k d h))

pub more_one : {X : Type 0} (made new : List X) (x : X) (k : ℕ) → new ≡ made ++ x ∷ [] → length made ≡ k → length new ≡ k + 1
more_one made new x k e n = rw (e, length-append) (omega arith)
