-- What each call answers where nothing refuses it: the stated answer, which is a tree again.
use Rattle.std.proofs.Common.{◌≡◌, ℕ, ◌+◌, ◌<◌, ◌≤◌, ◌^◌, true, false, if◌then◌else◌, not, ◌&&◌, Result, Ok, Err, List, [], ◌∷◌, ◌++◌, length, map, refl, sym, ◌∙◌, ap, subst, arith, inl, inr, append_assoc}
use Rattle.std.specs.List.{flat_map}
use Rattle.std.proofs.lemmas.Bool.{lt-ltb}
use Rattle.beta_tree.specs.declared.refusals.BetaFail.{BetaFail}
use Rattle.beta_tree.specs.declared.refusals.BetaFail.TheVariants.{NoBeta, NotALoop}
use Rattle.beta_tree.specs.Vectors.{children_of, is_nil, no_statement, is_leaf, is_loop, In, IsTree, AllFit, LongerUnder}
use Rattle.beta_tree.specs.Edits.{below, split_loop, join_loops, fused, reordered, is_permutation_of, with_level, make_room, leaf_split}
use Rattle.beta_tree.specs.Answers.{fission_answer, fuse_answer, reorder_answer, level_answer, leaf_answer}
use Rattle.beta_tree.proofs.Places.{bool_tells, from_In-under}
use Rattle.beta_tree.proofs.Trees.{fission_tree, fuse_tree, reorder_tree, level_tree, fit_of_tree, child_below, children_few, leaf_in, some_under}
use Rattle.beta_tree.proofs.Leaves.{front_of_append, last_of_append, leaf_tree, In-split}

all_fit_of : (V W : List (List ℕ)) → IsTree V → ((v : List ℕ) → In v W → In v V) → AllFit W
all_fit_of V [] t h = tt
all_fit_of V (w ∷ W) t h = (fit_of_tree w V t (h w (inl refl)), all_fit_of V W t (λ v i. h v (inr i)))

pub all_fit : (V : List (List ℕ)) → IsTree V → AllFit V
all_fit V t = all_fit_of V V t (λ v i. i)

nil_of_append : (Q : List ℕ) (p : ℕ) → is_nil (Q ++ p ∷ []) ≡ false
nil_of_append [] p = refl
nil_of_append (q ∷ Q) p = refl

pub loop_is : (Q : List ℕ) (p : ℕ) (V : List (List ℕ)) → no_statement (Q ++ p ∷ []) V ≡ false → is_leaf (Q ++ p ∷ []) V ≡ false → is_loop (Q ++ p ∷ []) V ≡ true
loop_is Q p V some leafless = rw (nil_of_append Q p, some, leafless) refl

-- an answer that is a tree
pub record Done (answer : Result (List (List ℕ)) BetaFail) (W : List (List ℕ)) : Type 0 where
  pub answer_is : answer ≡ Ok W
  pub tree : IsTree W
  pub fit : AllFit W

pub fission_at : (Q : List ℕ) (p c : ℕ) (V : List (List ℕ)) → IsTree V → no_statement (Q ++ p ∷ []) V ≡ false → is_leaf (Q ++ p ∷ []) V ≡ false → 0 < c → c < children_of (Q ++ p ∷ []) V → Done (fission_answer (Q ++ p ∷ []) c V) (map (below Q (split_loop p c)) V)
fission_at Q p c V t some leafless first within =
    let loop = loop_is Q p V some leafless in
    let tree = fission_tree Q p c V t loop first within in
    record {
      answer_is = rw (some, nil_of_append Q p, leafless, lt-ltb 0 c first, lt-ltb c (children_of (Q ++ p ∷ []) V) within, front_of_append Q p, last_of_append Q p) refl;
      tree = tree;
      fit = all_fit (map (below Q (split_loop p c)) V) tree;
    }

pub fission_done : (Q P : List ℕ) (p c : ℕ) (V : List (List ℕ)) → IsTree V → P ≡ Q ++ p ∷ [] → no_statement P V ≡ false → is_leaf P V ≡ false → 0 < c → c < children_of P V → Done (fission_answer P c V) (map (below Q (split_loop p c)) V)
fission_done Q P p c V t is some leafless first within =
    subst (λ S. Done (fission_answer S c V) (map (below Q (split_loop p c)) V)) (sym is)
    (fission_at Q p c V t (subst (λ S. no_statement S V ≡ false) is some) (subst (λ S. is_leaf S V ≡ false) is leafless) first (subst (λ S. c < children_of S V) is within))

-- the number after the last entry of a prefix of a vector fits 32 bits
pub next_fits : (Q P : List ℕ) (p : ℕ) (V : List (List ℕ)) → IsTree V → P ≡ Q ++ p ∷ [] → no_statement P V ≡ false → p + 1 < 2 ^ 32
next_fits Q P p V t is some =
    let (w, i) = some_under P V some in
    let j : In (Q ++ p ∷ w) V = subst (λ z. In z V) (ap (λ z. z ++ w) is ∙ append_assoc Q (p ∷ []) w) (from_In-under P w V i) in
    let a = child_below Q p w V t.dense j in
    let b = children_few Q V in
    let c = t.few in
    omega arith

pub children_fit : (P : List ℕ) (V : List (List ℕ)) → IsTree V → children_of P V < 2 ^ 32
children_fit P V t = let b = children_few P V in let c = t.few in omega arith

pub fuse_at : (Q : List ℕ) (p : ℕ) (V : List (List ℕ)) → IsTree V → no_statement (Q ++ p ∷ []) V ≡ false → no_statement (Q ++ (p + 1) ∷ []) V ≡ false → is_leaf (Q ++ p ∷ []) V ≡ false → is_leaf (Q ++ (p + 1) ∷ []) V ≡ false → Done (fuse_answer (Q ++ p ∷ []) V) (map (below Q (join_loops p (children_of (Q ++ p ∷ []) V))) V)
fuse_at Q p V t some next leafless next_leafless =
    let loop = loop_is Q p V some leafless in
    let next_loop = loop_is Q (p + 1) V next next_leafless in
    let tree = fuse_tree Q p V t loop next_loop in
    record {
      answer_is = rw (some, nil_of_append Q p, front_of_append Q p, last_of_append Q p, next, leafless, nil_of_append Q (p + 1), next_leafless) refl;
      tree = tree;
      fit = all_fit (map (below Q (join_loops p (children_of (Q ++ p ∷ []) V))) V) tree;
    }

pub fuse_done : (Q P : List ℕ) (p : ℕ) (V : List (List ℕ)) → IsTree V → P ≡ Q ++ p ∷ [] → no_statement P V ≡ false → no_statement (Q ++ (p + 1) ∷ []) V ≡ false → is_leaf P V ≡ false → is_leaf (Q ++ (p + 1) ∷ []) V ≡ false → Done (fuse_answer P V) (map (below Q (join_loops p (children_of P V))) V)
fuse_done Q P p V t is some next leafless next_leafless =
    subst (λ S. Done (fuse_answer S V) (map (below Q (join_loops p (children_of S V))) V)) (sym is)
    (fuse_at Q p V t (subst (λ S. no_statement S V ≡ false) is some) next (subst (λ S. is_leaf S V ≡ false) is leafless) next_leafless)

pub reorder_done : (P order : List ℕ) (V : List (List ℕ)) → IsTree V → no_statement P V ≡ false → is_leaf P V ≡ false → is_permutation_of (children_of P V) order ≡ true → Done (reorder_answer P order V) (map (reordered P order) V)
reorder_done P order V t some leafless permutes =
    let tree = reorder_tree P order V t some permutes in
    record {
      answer_is = rw (some, leafless, permutes) refl;
      tree = tree;
      fit = all_fit (map (reordered P order) V) tree;
    }

pub level_done : (P : List ℕ) (k : ℕ) (V : List (List ℕ)) → IsTree V → length P ≤ k → LongerUnder P k V → no_statement P V ≡ false → Done (level_answer P k V) (map (with_level P k) V)
level_done P k V t low longer some =
    let tree = level_tree P k V t low longer some in
    record {
      answer_is = rw some refl;
      tree = tree;
      fit = all_fit (map (with_level P k) V) tree;
    }

-- no vector is empty, so the empty prefix is no leaf
pub nil_no_leaf : (V : List (List ℕ)) → IsTree V → is_leaf [] V ≡ false
nil_no_leaf V t = elim (bool_tells (is_leaf [] V)) [ inl h ↦ absurd (t.filled (leaf_in [] V h)) | inr f ↦ f ]

pub leaf_at : (Q : List ℕ) (p : ℕ) (V : List (List ℕ)) → IsTree V → length V + 1 < 2 ^ 32 → no_statement (Q ++ p ∷ []) V ≡ false → is_leaf (Q ++ p ∷ []) V ≡ true → Done (leaf_answer (Q ++ p ∷ []) V) (flat_map (leaf_split (Q ++ p ∷ [])) V)
leaf_at Q p V t few some leaf =
    let tree = leaf_tree Q p V t few (leaf_in (Q ++ p ∷ []) V leaf) in
    record {
      answer_is = rw (some, leaf) refl;
      tree = tree;
      fit = all_fit (flat_map (leaf_split (Q ++ p ∷ [])) V) tree;
    }

pub leaf_done : (Q P : List ℕ) (p : ℕ) (V : List (List ℕ)) → IsTree V → length V + 1 < 2 ^ 32 → P ≡ Q ++ p ∷ [] → no_statement P V ≡ false → is_leaf P V ≡ true → Done (leaf_answer P V) (flat_map (leaf_split P) V)
leaf_done Q P p V t few is some leaf =
    subst (λ S. Done (leaf_answer S V) (flat_map (leaf_split S) V)) (sym is)
    (leaf_at Q p V t few (subst (λ S. no_statement S V ≡ false) is some) (subst (λ S. is_leaf S V ≡ true) is leaf))

-- the refusals of a fuse, of a prefix that isn't empty

fuse_refusal_at : (Q : List ℕ) (p : ℕ) (V : List (List ℕ)) → no_statement (Q ++ p ∷ []) V ≡ false → fuse_answer (Q ++ p ∷ []) V ≡ (if no_statement (Q ++ (p + 1) ∷ []) V then Err NoBeta else if not (is_loop (Q ++ p ∷ []) V && is_loop (Q ++ (p + 1) ∷ []) V) then Err NotALoop else Ok (map (fused (Q ++ p ∷ []) (children_of (Q ++ p ∷ []) V)) V))
fuse_refusal_at Q p V some = rw (some, nil_of_append Q p, front_of_append Q p, last_of_append Q p) refl

pub fuse_no_next : (Q P : List ℕ) (p : ℕ) (V : List (List ℕ)) → P ≡ Q ++ p ∷ [] → no_statement P V ≡ false → no_statement (Q ++ (p + 1) ∷ []) V ≡ true → fuse_answer P V ≡ Err NoBeta
fuse_no_next Q P p V is some next =
    subst (λ S. fuse_answer S V ≡ Err NoBeta) (sym is)
    (fuse_refusal_at Q p V (subst (λ S. no_statement S V ≡ false) is some) ∙ (rw next refl))

pub fuse_leaf : (Q P : List ℕ) (p : ℕ) (V : List (List ℕ)) → P ≡ Q ++ p ∷ [] → no_statement P V ≡ false → no_statement (Q ++ (p + 1) ∷ []) V ≡ false → is_leaf P V ≡ true → fuse_answer P V ≡ Err NotALoop
fuse_leaf Q P p V is some next leaf =
    let leaf2 : is_leaf (Q ++ p ∷ []) V ≡ true = subst (λ S. is_leaf S V ≡ true) is leaf in
    let some2 : no_statement (Q ++ p ∷ []) V ≡ false = subst (λ S. no_statement S V ≡ false) is some in
    subst (λ S. fuse_answer S V ≡ Err NotALoop) (sym is)
    (fuse_refusal_at Q p V some2 ∙ (rw (next, some2, nil_of_append Q p, leaf2) refl))

pub fuse_next_leaf : (Q P : List ℕ) (p : ℕ) (V : List (List ℕ)) → P ≡ Q ++ p ∷ [] → no_statement P V ≡ false → no_statement (Q ++ (p + 1) ∷ []) V ≡ false → is_leaf P V ≡ false → is_leaf (Q ++ (p + 1) ∷ []) V ≡ true → fuse_answer P V ≡ Err NotALoop
fuse_next_leaf Q P p V is some next leafless leaf =
    let leafless2 : is_leaf (Q ++ p ∷ []) V ≡ false = subst (λ S. is_leaf S V ≡ false) is leafless in
    let some2 : no_statement (Q ++ p ∷ []) V ≡ false = subst (λ S. no_statement S V ≡ false) is some in
    subst (λ S. fuse_answer S V ≡ Err NotALoop) (sym is)
    (fuse_refusal_at Q p V some2 ∙ (rw (next, some2, nil_of_append Q p, leafless2, nil_of_append Q (p + 1), leaf) refl))

-- room for a new leaf makes no entry too large
pub room_fit : (Q P : List ℕ) (p : ℕ) (V : List (List ℕ)) → IsTree V → length V + 1 < 2 ^ 32 → P ≡ Q ++ p ∷ [] → is_leaf P V ≡ true → AllFit (map (below Q (make_room p)) V)
room_fit Q P p V t few is leaf =
    let i : In (Q ++ p ∷ []) V = subst (λ S. In S V) is (leaf_in P V leaf) in
    all_fit_of (flat_map (leaf_split (Q ++ p ∷ [])) V) (map (below Q (make_room p)) V) (leaf_tree Q p V t few i) (λ v j. In-split Q p v V j)
