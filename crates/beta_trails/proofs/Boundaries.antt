-- A fission between neighbours of a trail is accepted and takes 1 from their agreement; a fuse gives it back.
use Rattle.std.proofs.Common.{◌≡◌, ℕ, zero, suc, ◌+◌, ◌-◌, ◌<◌, ◌^◌, nat_lt, true, false, inl, inr, Ok, List, [], ◌∷◌, ◌++◌, length, take, map, refl, sym, ◌∙◌, ap, subst, arith}
use Rattle.std.proofs.lemmas.Bool.{lt-ltb}
use Rattle.beta_tree.specs.Vectors.{In, Apart, ApartFromAll, PrefixFree, IsTree, under, is_nil, no_statement, is_leaf, children_of}
use Rattle.beta_tree.specs.Edits.{front, last, below, split_loop, fissioned}
use Rattle.beta_tree.specs.Answers.{fission_answer}
use Rattle.beta_tree.proofs.Places.{bool_tells, In-under}
use Rattle.beta_tree.proofs.Trees.{child_below, leaf_in}
use Rattle.beta_tree.proofs.Undone.{fuse_undoes_fission}
use Rattle.beta_trails.specs.Trails.{Step, zeros, entry, next, trail, trail_end, Agreeing}
use Rattle.beta_trails.specs.Laws.{parted_loop, parted_child, FissionParts, FuseJoins}
use Rattle.beta_trails.proofs.Steps.{length_zeros}
use Rattle.beta_trails.proofs.Dense.{trail_is_tree}
use Rattle.beta_trails.proofs.Parted.{parted_from, end_long, next_parted, next_past, end_early}

-- the vector right behind a boundary is one of the trail
first_in : (v : List ℕ) (steps : List Step) → In v (trail v steps)
first_in v [] = inl refl
first_in v ((a, l) ∷ more) = inl refl

pub next_in : (v : List ℕ) (before more : List Step) (n l : ℕ) → In (next n l (trail_end v before)) (trail v (before ++ (n, l) ∷ more))
next_in v [] more n l = inr (first_in (next n l v) more)
next_in v ((a, m) ∷ before) more n l = inr (next_in (next a m v) before more n l)

-- no vector is a prefix of another

apart_all : (v w : List ℕ) (V : List (List ℕ)) → ApartFromAll v V → In w V → Apart v w
apart_all v w [] a i = absurd i
apart_all v w (u ∷ V) (a, b) (inl e) = subst (λ z. Apart v z) e a
apart_all v w (u ∷ V) (a, b) (inr i) = apart_all v w V b i

not_before_prefix : (P w : List ℕ) → Apart P (P ++ w) → ⊥
not_before_prefix [] w a = a
not_before_prefix (p ∷ P) w (inl ne) = ne refl
not_before_prefix (p ∷ P) w (inr a) = not_before_prefix P w a

not_behind_prefix : (P w : List ℕ) → Apart (P ++ w) P → ⊥
not_behind_prefix [] [] a = a
not_behind_prefix [] (x ∷ w) a = a
not_behind_prefix (p ∷ P) w (inl ne) = ne refl
not_behind_prefix (p ∷ P) w (inr a) = not_behind_prefix P w a

not_longer : (P : List ℕ) (y : ℕ) (w : List ℕ) → P ≡ P ++ y ∷ w → ⊥
not_longer [] y w e = cc
not_longer (p ∷ P) y w e = not_longer P y w (cc)

prefix_out : (P : List ℕ) (y : ℕ) (w : List ℕ) (V : List (List ℕ)) → PrefixFree V → In (P ++ y ∷ w) V → In P V → ⊥
prefix_out P y w [] f i j = i
prefix_out P y w (v ∷ V) (a, f) (inl e) (inl g) = not_longer P y w (sym g ∙ e)
prefix_out P y w (v ∷ V) (a, f) (inl e) (inr j) = not_behind_prefix P (y ∷ w) (subst (λ z. Apart z P) e (apart_all v P V a j))
prefix_out P y w (v ∷ V) (a, f) (inr i) (inl g) = not_before_prefix P (y ∷ w) (subst (λ z. Apart z (P ++ y ∷ w)) g (apart_all v (P ++ y ∷ w) V a i))
prefix_out P y w (v ∷ V) (a, f) (inr i) (inr j) = prefix_out P y w V f i j

some_nil : (w : List ℕ) (W : List (List ℕ)) → In w W → is_nil W ≡ false
some_nil w [] i = absurd i
some_nil w (u ∷ W) i = refl

-- a fission of a loop at a child behind the first is accepted
fission_ok : (P : List ℕ) (c : ℕ) (w : List ℕ) (V : List (List ℕ)) → IsTree V → is_nil P ≡ false → 0 < c → In (P ++ c ∷ w) V → fission_answer P c V ≡ Ok (map (fissioned P c) V)
fission_ok P c w V t some first i =
    let has : no_statement P V ≡ false = some_nil (c ∷ w) (under P V) (In-under P (c ∷ w) V i) in
    let loop : is_leaf P V ≡ false = elim (bool_tells (is_leaf P V)) [ inl h ↦ absurd (prefix_out P c w V t.free i (leaf_in P V h)) | inr h ↦ h ] in
    let low : nat_lt 0 c ≡ true = lt-ltb 0 c first in
    let high : nat_lt c (children_of P V) ≡ true = lt-ltb c (children_of P V) (child_below P c w V t.dense i) in
    rw (has, loop, some, low, high) refl

-- the loop parted at a boundary

front_take : (n : ℕ) (u : List ℕ) → n < length u → front (take (suc n) u) ≡ take n u
front_take n [] h = absurd (omega arith)
front_take zero (x ∷ u) h = refl
front_take (suc n) (x ∷ []) h = absurd (omega arith)
front_take (suc n) (x ∷ (y ∷ u)) h = ap (λ z. x ∷ z) (front_take n (y ∷ u) (omega arith))

last_take : (n : ℕ) (u : List ℕ) → n < length u → last (take (suc n) u) ≡ entry u n
last_take n [] h = absurd (omega arith)
last_take zero (x ∷ u) h = refl
last_take (suc n) (x ∷ []) h = absurd (omega arith)
last_take (suc n) (x ∷ (y ∷ u)) h = last_take n (y ∷ u) (omega arith)

take_some : (n : ℕ) (u : List ℕ) → n < length u → is_nil (take (suc n) u) ≡ false
take_some n [] h = absurd (omega arith)
take_some n (x ∷ u) h = refl

fission_at : (n m l : ℕ) (before more : List Step) → 0 < m → length (before ++ (suc n, l) ∷ more) + 1 < 2 ^ 32 → Agreeing m (before ++ (suc n, l) ∷ more) → fission_answer (parted_loop m (suc n) before) (parted_child m (suc n) before) (trail (zeros m) (before ++ (suc n, l) ∷ more)) ≡ Ok (trail (zeros m) (before ++ (n, l) ∷ more))
fission_at n m l before more some few g =
    let t : IsTree (trail (zeros m) (before ++ (suc n, l) ∷ more)) = trail_is_tree m (before ++ (suc n, l) ∷ more) some few g in
    let u : List ℕ = trail_end (zeros m) before in
    let good : Agreeing (length (zeros m)) (before ++ (suc n, l) ∷ more) = subst (λ z. Agreeing z (before ++ (suc n, l) ∷ more)) (sym (length_zeros m)) g in
    let (i, j, o, b) = end_long (zeros m) before more (suc n) l good in
    let c : ℕ = entry u (suc n) + 1 in
    let ok = fission_ok (take (suc n) u) c (zeros (l - suc n - 1)) (trail (zeros m) (before ++ (suc n, l) ∷ more)) t (take_some n u (omega arith)) (omega arith) (next_in (zeros m) before more (suc n) l) in
    let is = parted_from (take n u) (entry u n) c n l (zeros m) before more good (end_early n u i) (next_past n l u i) (next_parted n l u i j) in
    let F : List ℕ → ℕ → List (List ℕ) = λ Q p. map (below Q (split_loop p c)) (trail (zeros m) (before ++ (suc n, l) ∷ more)) in
    ok ∙ ap Ok (ap (λ Q. F Q (last (take (suc n) u))) (front_take n u (omega arith)) ∙ (ap (F (take n u)) (last_take n u (omega arith)) ∙ is))

pub fission_parts : FissionParts
fission_parts m zero l before more some full few g = absurd (omega arith)
fission_parts m (suc n) l before more some full few g =
    let e : n ≡ suc n - 1 = omega arith in
    fission_at n m l before more full few g ∙ ap (λ k. Ok (trail (zeros m) (before ++ (k, l) ∷ more))) e

pub fuse_joins : FuseJoins
fuse_joins m n l before more some full few g =
    fuse_undoes_fission (parted_loop m n before) (parted_child m n before) (trail (zeros m) (before ++ (n, l) ∷ more)) (trail (zeros m) (before ++ (n - 1, l) ∷ more))
    (trail_is_tree m (before ++ (n, l) ∷ more) full few g) (fission_parts m n l before more some full few g)
