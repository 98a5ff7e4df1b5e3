-- One step of the numbering of a vector, and the end of a comparison.
use Rattle.std.proofs.Common.{◌≡◌, ℕ, ℤ, ◌+◌, ◌-◌, ◌<◌, ◌++◌, refl, sym, ◌∙◌, ap, arith, ◌⊎◌, inl, inr, true, false, List, [], ◌∷◌, length, map, get_or, take, drop, append_assoc}
use Rattle.std.specs.Ordering.{int_cmp, int_eq, nat_cmp}
use Rattle.std.specs.Cmp.Lexicographic.{slice_cmp}
use Rattle.std.specs.Prelude.{◌==◌, nat_lt}
use Rattle.std.proofs.lemmas.Bool.Decides.{nat_tests}
use Rattle.std.proofs.lemmas.Grind.{common_steps}
use Rattle.row_core.specs.DenseOrder.{numbered_after}

pub compare_end : (u v : List ℤ) → (length u < 1) ⊎ (length v < 1) → nat_cmp (length u) (length v) ≡ slice_cmp int_cmp u v
compare_end [] [] h = refl
compare_end [] (y ∷ v) h = let t : nat_lt (length {A = ℤ} []) (length (y ∷ v)) ≡ true = grind (arith, nat_tests) in rw t refl
compare_end (x ∷ u) [] h = let t : nat_lt (length (x ∷ u)) 0 ≡ false = grind (arith, nat_tests) in let e : (length (x ∷ u) == 0) ≡ false = grind (arith, nat_tests) in rw (t, e) refl
compare_end (x ∷ u) (y ∷ v) h = elim h [ inl l ↦ absurd (omega arith) | inr l ↦ absurd (omega arith) ]

pub front_rest : {A : Type 0} (u : List A) (d : A) → 0 < length u → u ≡ get_or u 0 d ∷ take (length u - 1) (drop 1 u)
front_rest [] d h = absurd (omega arith)
front_rest (x ∷ u) d h = grind (arith, common_steps)

pub differs : (F : List ℤ) (N : List ℕ) (V : List ℤ) (y x : ℤ) (k : ℕ) (u : List ℤ) (n : List ℕ) (v : List ℤ) → F ≡ y ∷ u → N ≡ k ∷ n → V ≡ x ∷ v → int_eq y x ≡ false → numbered_after F N V ≡ (k + 1) ∷ map (λ _. 0) v
differs F N V y x k u n v f g h e = rw (f, g, h) (rw e refl)

pub agrees : (F : List ℤ) (N : List ℕ) (V : List ℤ) (y x : ℤ) (k : ℕ) (u : List ℤ) (n : List ℕ) (v : List ℤ) → F ≡ y ∷ u → N ≡ k ∷ n → V ≡ x ∷ v → int_eq y x ≡ true → numbered_after F N V ≡ k ∷ numbered_after u n v
agrees F N V y x k u n v f g h e = rw (f, g, h) (rw e refl)

pub ended : (F : List ℤ) (N : List ℕ) (V : List ℤ) → length V < 1 → numbered_after F N V ≡ map (λ _. 0) V
ended [] N [] h = refl
ended (y ∷ F) [] [] h = refl
ended (y ∷ F) (k ∷ N) [] h = refl
ended F N (x ∷ V) h = absurd (omega arith)

pub ended_before : (F : List ℤ) (N : List ℕ) (V : List ℤ) → (length F < 1) ⊎ (length N < 1) → numbered_after F N V ≡ map (λ _. 0) V
ended_before [] N V h = refl
ended_before (y ∷ F) [] V h = refl
ended_before (y ∷ F) (k ∷ N) V h = elim h [ inl l ↦ absurd (omega arith) | inr l ↦ absurd (omega arith) ]

front_is : {A : Type 0} (u : List A) (y : A) → 0 < length u → y ≡ get_or u 0 y → u ≡ y ∷ take (length u - 1) (drop 1 u)
front_is u y l is = front_rest u y l ∙ ap (λ z. z ∷ take (length u - 1) (drop 1 u)) (sym is)

pub step_differs : (F : List ℤ) (N : List ℕ) (V : List ℤ) (y x : ℤ) → 0 < length F → 0 < length N → 0 < length V → y ≡ get_or F 0 y → x ≡ get_or V 0 x → int_eq y x ≡ false → numbered_after F N V ≡ (get_or N 0 0 + 1) ∷ map (λ _. 0) (take (length V - 1) (drop 1 V))
step_differs F N V y x a b c f v e = differs F N V y x (get_or N 0 0) _ _ _ (front_is F y a f) (front_rest N 0 b) (front_is V x c v) e

pub step_agrees : (F : List ℤ) (N : List ℕ) (V : List ℤ) (y x : ℤ) → 0 < length F → 0 < length N → 0 < length V → y ≡ get_or F 0 y → x ≡ get_or V 0 x → int_eq y x ≡ true → numbered_after F N V ≡ get_or N 0 0 ∷ numbered_after (take (length F - 1) (drop 1 F)) (take (length N - 1) (drop 1 N)) (take (length V - 1) (drop 1 V))
step_agrees F N V y x a b c f v e = agrees F N V y x (get_or N 0 0) _ _ _ (front_is F y a f) (front_rest N 0 b) (front_is V x c v) e

pub joined : (made pushed out : List ℕ) (k : ℕ) (tail now all : List ℕ) → pushed ≡ made ++ k ∷ [] → out ≡ pushed ++ tail → now ≡ k ∷ tail → made ++ now ≡ all → out ≡ all
joined made pushed out k tail now all p o n h = rw (o, p, append_assoc) (ap (λ z. made ++ z) (sym n) ∙ h)

nil_right : (xs : List ℕ) → xs ++ [] ≡ xs
nil_right [] = refl
nil_right (x ∷ xs) = ap (λ z. x ∷ z) (nil_right xs)

pub ended_made : (made all : List ℕ) (F : List ℤ) (N : List ℕ) (V : List ℤ) → length V < 1 → made ++ numbered_after F N V ≡ all → made ≡ all
ended_made made all F N [] l h = sym (nil_right made) ∙ (ap (λ z. made ++ z) (sym (ended F N [] l)) ∙ h)
ended_made made all F N (x ∷ V) l h = absurd (omega arith)
