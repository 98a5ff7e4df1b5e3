-- Words and rows that are compared one after the other.
use Rattle.std.proofs.Common.{◌≡◌, refl, ap, sym, ◌∙◌, ℕ, zero, suc, ◌+◌, ◌<◌, List, [], ◌∷◌, length, drop, map, Bool, arith}
use Rattle.std.specs.Prelude.{slice_index_or}
use Rattle.std.proofs.lemmas.Slice.Eq.{bytes_eq-Decides}
use Rattle.suite_base.specs.Words.{words}
use Rattle.scop_data.specs.LineWords.{are_same}
use Rattle.dependence_audit.specs.Contents.{WordEnds}

-- what is left of a list at a place is its member there, and the rest
pub left_at : {A : Type 0} (xs : List A) (k : ℕ) (d : A) → k < length xs → drop k xs ≡ slice_index_or xs k d ∷ drop (k + 1) xs
left_at [] k d h = absurd (omega arith)
left_at (x ∷ xs) zero d h = refl
left_at (x ∷ xs) (suc k) d h =
    let next : suc k + 1 ≡ suc (k + 1) = omega arith in
    rw next (left_at xs k d (omega arith))

same_first : (w : List ℕ) (vs ws : List (List ℕ)) → are_same (w ∷ vs) (w ∷ ws) ≡ are_same vs ws
same_first w vs ws = rw ((bytes_eq-Decides w w).1 refl) refl

-- a word that is the expected one leaves what follows to be compared
pub word_step : {A : Type 0} (f : A → List ℕ) (line : List ℕ) (from end : ℕ) (xs : List A) (k : ℕ) (d : A) (rest : Bool)
    → k < length xs → are_same (words (drop from line)) (map f (drop k xs)) ≡ rest → WordEnds line from (f (slice_index_or xs k d)) end
    → are_same (words (drop end line)) (map f (drop (k + 1) xs)) ≡ rest
word_step f line from end xs k d rest h same ends =
    let w = f (slice_index_or xs k d) in
    sym (same_first w (words (drop end line)) (map f (drop (k + 1) xs)))
    ∙ (ap (λ vs. are_same vs (w ∷ map f (drop (k + 1) xs))) (sym ends.first)
    ∙ (ap (λ ys. are_same (words (drop from line)) (map f ys)) (sym (left_at xs k d h)) ∙ same))
