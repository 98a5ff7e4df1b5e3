-- The leaves after a split.
use Rattle.std.proofs.Common.{◌≡◌, ℕ, suc, ◌+◌, ◌<◌, true, false, if◌then◌else◌, inl, inr, List, [], ◌∷◌, ◌++◌, map, length, get_or, set, ℤ, refl, ap, sym, ◌∙◌, subst, add-one, arith}
use Rattle.std.specs.Prelude.{insert}
use Rattle.std.specs.List.{flat_map}
use Rattle.beta_tree.specs.Vectors.{Apart, ApartFromAll, PrefixFree}
use Rattle.beta_tree.specs.Edits.{same_vector, leaf_split, below, front, last, make_room, next_sibling}
use Rattle.beta_tree.proofs.Places.{bool_tells}
use Rattle.beta_tree.proofs.Leaves.{same_vector_yes}
use Rattle.clay_script.specs.declared.commands.Command.TheVariants.{Iss}
use Rattle.clay_commands.specs.declared.leaves.Leaf.{Leaf}
use Rattle.clay_commands.specs.Arguments.{natural}
use Rattle.clay_commands.specs.Drafts.{Draft, betas_of, with_beta, halves, leaf_after}
use Rattle.clay_commands.specs.Steps.{joined, first_half, second_half, place_in, split_at}

apart_self : (v : List ℕ) → Apart v v → ⊥
apart_self [] h = h
apart_self (x ∷ v) (inl ne) = ne refl
apart_self (x ∷ v) (inr h) = apart_self v h

pub not_same : (u v : List ℕ) → Apart u v → same_vector v u ≡ false
not_same u v a = elim (bool_tells (same_vector v u)) [ inl t ↦ absurd (apart_self u (subst (λ w. Apart u w) (same_vector_yes v u t) a)) | inr f ↦ f ]

-- the other vectors make room
abbrev pub room : List ℕ → List ℕ → List ℕ
room P v = below (front P) (make_room (last P)) v

pub other_split : (P v : List ℕ) → same_vector v P ≡ false → leaf_split P v ≡ room P v ∷ []
other_split P v f = ap (λ t. if t then v ∷ (next_sibling P ∷ []) else room P v ∷ []) f

pub own_split : (P v : List ℕ) → same_vector v P ≡ true → leaf_split P v ≡ v ∷ (next_sibling P ∷ [])
own_split P v f = ap (λ t. if t then v ∷ (next_sibling P ∷ []) else room P v ∷ []) f

other_leaf : (p xs ns : List ℤ) (c : ℤ) (V : List (List ℕ)) (leaf : Leaf) → same_vector leaf.beta (map natural p) ≡ false
    → leaf_after (Iss p xs ns c) V leaf ≡ with_beta (room (map natural p) leaf.beta) leaf ∷ []
other_leaf p xs ns c V leaf f = ap (λ t. if t then halves (map natural p) xs ns c leaf else with_beta (room (map natural p) leaf.beta) leaf ∷ []) f

own_leaf : (p xs ns : List ℤ) (c : ℤ) (V : List (List ℕ)) (leaf : Leaf) → same_vector leaf.beta (map natural p) ≡ true
    → leaf_after (Iss p xs ns c) V leaf ≡ halves (map natural p) xs ns c leaf
own_leaf p xs ns c V leaf f = ap (λ t. if t then halves (map natural p) xs ns c leaf else with_beta (room (map natural p) leaf.beta) leaf ∷ []) f

-- leaves none of which is split
rest_split : (p xs ns : List ℤ) (c : ℤ) (V : List (List ℕ)) (D : Draft) (u : List ℕ) → same_vector u (map natural p) ≡ true → ApartFromAll u (betas_of D)
    → joined (flat_map (leaf_split (map natural p)) (betas_of D)) D ≡ flat_map (leaf_after (Iss p xs ns c) V) D
rest_split p xs ns c V [] u s a = refl
rest_split p xs ns c V (leaf ∷ D) u s a =
    let other : same_vector leaf.beta (map natural p) ≡ false = subst (λ w. same_vector leaf.beta w ≡ false) (same_vector_yes u (map natural p) s) (not_same u leaf.beta a.0) in
    ap (λ W. joined (W ++ flat_map (leaf_split (map natural p)) (betas_of D)) (leaf ∷ D)) (other_split (map natural p) leaf.beta other)
    ∙ ap (λ t. with_beta (room (map natural p) leaf.beta) leaf ∷ t) (rest_split p xs ns c V D u s a.1)
    ∙ sym (ap (λ t. t ++ flat_map (leaf_after (Iss p xs ns c) V) D) (other_leaf p xs ns c V leaf other))

own_case : (p xs ns : List ℤ) (c : ℤ) (V : List (List ℕ)) (leaf : Leaf) (D : Draft) (d : Leaf) → PrefixFree (leaf.beta ∷ betas_of D) → same_vector leaf.beta (map natural p) ≡ true
    → joined (flat_map (leaf_split (map natural p)) (leaf.beta ∷ betas_of D)) (split_at (place_in (map natural p) (leaf ∷ D)) xs ns c (get_or (leaf ∷ D) (place_in (map natural p) (leaf ∷ D)) d) (leaf ∷ D))
    ≡ flat_map (leaf_after (Iss p xs ns c) V) (leaf ∷ D)
own_case p xs ns c V leaf D d free t =
    let here : place_in (map natural p) (leaf ∷ D) ≡ 0 = ap (λ b. if b then 0 else place_in (map natural p) D + 1) t in
    ap (λ j. joined (flat_map (leaf_split (map natural p)) (leaf.beta ∷ betas_of D)) (split_at j xs ns c (get_or (leaf ∷ D) j d) (leaf ∷ D))) here
    ∙ ap (λ W. joined (W ++ flat_map (leaf_split (map natural p)) (betas_of D)) (first_half xs ns c leaf ∷ (second_half xs ns c leaf ∷ D))) (own_split (map natural p) leaf.beta t)
    ∙ ap (λ r. with_beta leaf.beta (first_half xs ns c leaf) ∷ (with_beta (next_sibling (map natural p)) (second_half xs ns c leaf) ∷ r)) (rest_split p xs ns c V D leaf.beta t free.0)
    ∙ sym (ap (λ r. r ++ flat_map (leaf_after (Iss p xs ns c) V) D) (own_leaf p xs ns c V leaf t))

split_behind : (j : ℕ) (xs ns : List ℤ) (c : ℤ) (x leaf : Leaf) (D : Draft) → split_at (j + 1) xs ns c x (leaf ∷ D) ≡ leaf ∷ split_at j xs ns c x D
split_behind j xs ns c x leaf D =
    ap (λ n. insert (set (leaf ∷ D) n (first_half xs ns c x)) (n + 1) (second_half xs ns c x)) (add-one j)
    ∙ ap (λ n. insert (set (leaf ∷ D) (suc j) (first_half xs ns c x)) n (second_half xs ns c x)) (add-one (suc j))
    ∙ sym (ap (λ n. leaf ∷ insert (set D j (first_half xs ns c x)) n (second_half xs ns c x)) (add-one j))

other_case : (p xs ns : List ℤ) (c : ℤ) (V : List (List ℕ)) (leaf : Leaf) (D : Draft) (d : Leaf) → same_vector leaf.beta (map natural p) ≡ false
    → (place_in (map natural p) D < length D
    → joined (flat_map (leaf_split (map natural p)) (betas_of D)) (split_at (place_in (map natural p) D) xs ns c (get_or D (place_in (map natural p) D) d) D)
    ≡ flat_map (leaf_after (Iss p xs ns c) V) D)
    → place_in (map natural p) (leaf ∷ D) < length (leaf ∷ D)
    → joined (flat_map (leaf_split (map natural p)) (leaf.beta ∷ betas_of D)) (split_at (place_in (map natural p) (leaf ∷ D)) xs ns c (get_or (leaf ∷ D) (place_in (map natural p) (leaf ∷ D)) d) (leaf ∷ D))
    ≡ flat_map (leaf_after (Iss p xs ns c) V) (leaf ∷ D)
other_case p xs ns c V leaf D d f more l =
    let behind : place_in (map natural p) (leaf ∷ D) ≡ place_in (map natural p) D + 1 = ap (λ b. if b then 0 else place_in (map natural p) D + 1) f in
    let small : place_in (map natural p) D < length D = omega arith in
    let j = place_in (map natural p) D in
    ap (λ n. joined (flat_map (leaf_split (map natural p)) (leaf.beta ∷ betas_of D)) (split_at n xs ns c (get_or (leaf ∷ D) n d) (leaf ∷ D))) behind
    ∙ ap (λ x. joined (flat_map (leaf_split (map natural p)) (leaf.beta ∷ betas_of D)) (split_at (j + 1) xs ns c x (leaf ∷ D))) (ap (λ n. get_or (leaf ∷ D) n d) (add-one j))
    ∙ ap (λ E. joined (flat_map (leaf_split (map natural p)) (leaf.beta ∷ betas_of D)) E) (split_behind j xs ns c (get_or D j d) leaf D)
    ∙ ap (λ W. joined (W ++ flat_map (leaf_split (map natural p)) (betas_of D)) (leaf ∷ split_at j xs ns c (get_or D j d) D)) (other_split (map natural p) leaf.beta f)
    ∙ ap (λ r. with_beta (room (map natural p) leaf.beta) leaf ∷ r) (more small)
    ∙ sym (ap (λ r. r ++ flat_map (leaf_after (Iss p xs ns c) V) D) (other_leaf p xs ns c V leaf f))

-- vectors and leaves at once: one leaf is split in two, and the others make room
pub halves_joined : (p xs ns : List ℤ) (c : ℤ) (V : List (List ℕ)) (D : Draft) (d : Leaf) → PrefixFree (betas_of D) → place_in (map natural p) D < length D
    → joined (flat_map (leaf_split (map natural p)) (betas_of D)) (split_at (place_in (map natural p) D) xs ns c (get_or D (place_in (map natural p) D) d) D)
    ≡ flat_map (leaf_after (Iss p xs ns c) V) D
halves_joined p xs ns c V [] d free l = absurd (omega arith)
halves_joined p xs ns c V (leaf ∷ D) d free l =
    elim (bool_tells (same_vector leaf.beta (map natural p))) [
      | inl t ↦ own_case p xs ns c V leaf D d free t
      | inr f ↦ other_case p xs ns c V leaf D d f (λ small. halves_joined p xs ns c V D d free.1 small) l
    ]
