-- Trails whose neighbours agree in no entry, and their reorder.
use Rattle.std.proofs.Common.{◌≡◌, ℕ, zero, suc, ◌+◌, ◌-◌, ◌<◌, true, false, inl, inr, Ok, List, [], ◌∷◌, length, map, refl, sym, ◌∙◌, ap, subst, arith}
use Rattle.beta_tree.specs.Vectors.{In, under, heads, no_statement, is_leaf, children_of}
use Rattle.beta_tree.specs.Edits.{renumbered, place_of, is_permutation_of}
use Rattle.beta_tree.specs.Answers.{reorder_answer}
use Rattle.beta_tree.proofs.Places.{bool_tells, child_of_prefix, vector_of_child}
use Rattle.beta_tree.proofs.Counts.{count_of_range}
use Rattle.beta_tree.proofs.Trees.{leaf_in}
use Rattle.beta_trails.specs.Trails.{zeros, trail, ranked}
use Rattle.beta_trails.specs.Laws.{ApartIsRanked, placed_from, ReorderPlaces}
use Rattle.beta_trails.proofs.Steps.{next_here, zeros_next}

apart_from : (r : ℕ) (w lengths : List ℕ) → trail (r ∷ w) (map (λ l. (0, l)) lengths) ≡ (r ∷ w) ∷ ranked (r + 1) lengths
apart_from r w [] = refl
apart_from r w (l ∷ lengths) =
    ap (λ t. (r ∷ w) ∷ t) (ap (λ z. trail z (map (λ l. (0, l)) lengths)) (next_here l r w) ∙ apart_from (r + 1) (zeros (l - 1)) lengths)

pub apart_is_ranked : ApartIsRanked
apart_is_ranked m lengths some =
    ap (λ z. trail z (map (λ l. (0, l)) lengths)) (zeros_next m some) ∙ apart_from 0 (zeros (m - 1)) lengths

-- the first entries are the ranks

ranked_within : (r x : ℕ) (w lengths : List ℕ) → In (x ∷ w) (ranked r lengths) → x < r + length lengths
ranked_within r x w [] i = absurd i
ranked_within r x w (l ∷ lengths) (inl e) = let s : r ≡ x = cc in omega arith
ranked_within r x w (l ∷ lengths) (inr i) = let k = ranked_within (r + 1) x w lengths i in omega arith

ranked_has : (r x : ℕ) (lengths : List ℕ) → x < length lengths → (w : List ℕ) × In ((r + x) ∷ w) (ranked r lengths)
ranked_has r x [] h = absurd (omega arith)
ranked_has r zero (l ∷ lengths) h = (zeros (l - 1), inl (ap (λ n. n ∷ zeros (l - 1)) (let e : r ≡ r + 0 = omega arith in e)))
ranked_has r (suc x) (l ∷ lengths) h =
    let (w, i) = ranked_has (r + 1) x lengths (omega arith) in
    let e : r + 1 + x ≡ r + suc x = omega arith in
    (w, inr (subst (λ n. In (n ∷ w) (ranked (r + 1) lengths)) e i))

ranked_filled : (r : ℕ) (lengths : List ℕ) → In [] (ranked r lengths) → ⊥
ranked_filled r [] i = i
ranked_filled r (l ∷ lengths) (inl e) = cc
ranked_filled r (l ∷ lengths) (inr i) = ranked_filled (r + 1) lengths i

ranked_children : (lengths : List ℕ) → children_of [] (ranked 0 lengths) ≡ length lengths
ranked_children lengths =
    count_of_range (length lengths) (heads (under [] (ranked 0 lengths)))
    (λ x h. let (w, i) = ranked_has 0 x lengths h in let e : 0 + x ≡ x = omega arith in child_of_prefix [] x w (ranked 0 lengths) (subst (λ n. In (n ∷ w) (ranked 0 lengths)) e i))
    (λ x i. let (w, j) = vector_of_child [] x (ranked 0 lengths) i in let k = ranked_within 0 x w lengths j in omega arith)

renumbered_all : (r : ℕ) (order lengths : List ℕ) → map (renumbered order) (ranked r lengths) ≡ placed_from r order lengths
renumbered_all r order [] = refl
renumbered_all r order (l ∷ lengths) = ap (λ t. (place_of r order ∷ zeros (l - 1)) ∷ t) (renumbered_all (r + 1) order lengths)

reorder_ok : (order : List ℕ) (V : List (List ℕ)) → no_statement [] V ≡ false → is_leaf [] V ≡ false → is_permutation_of (children_of [] V) order ≡ true → reorder_answer [] order V ≡ Ok (map (renumbered order) V)
reorder_ok order V has loop permutes = rw (has, loop, permutes) refl

ranked_some : (lengths : List ℕ) → 0 < length lengths → no_statement [] (ranked 0 lengths) ≡ false
ranked_some [] h = absurd (omega arith)
ranked_some (l ∷ lengths) h = refl

pub reorder_places : ReorderPlaces
reorder_places order lengths some permutes =
    reorder_ok order (ranked 0 lengths) (ranked_some lengths some)
    (elim (bool_tells (is_leaf [] (ranked 0 lengths))) [ inl h ↦ absurd (ranked_filled 0 lengths (leaf_in [] (ranked 0 lengths) h)) | inr h ↦ h ])
    (subst (λ n. is_permutation_of n order ≡ true) (sym (ranked_children lengths)) permutes)
    ∙ ap Ok (renumbered_all 0 order lengths)
