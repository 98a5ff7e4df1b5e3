-- Each operation makes a tree of a tree.
use Rattle.std.proofs.Common.{◌≡◌, ℕ, zero, suc, ◌+◌, ◌-◌, ◌<◌, ◌≤◌, ◌==◌, nat_lt, Bool, true, false, if◌then◌else◌, not, ◌&&◌, ◌||◌, inl, inr, Some, None, List, [], ◌∷◌, ◌++◌, length, map, refl, sym, subst, arith, append_assoc, append-nil, length-append}
use Rattle.std.proofs.lemmas.List.{length-map}
use Rattle.std.specs.List.{list_any, cons_option}
use Rattle.std.proofs.Math.Dec.{eqb}
use Rattle.std.proofs.lemmas.Map.Made.{distinct_count-le}
use Rattle.beta_tree.specs.Vectors.{after, under, heads, children_of, is_nil, no_statement, is_leaf, is_loop, In, Apart, NoneEmpty, IsDense, IsTree, Fit}
use Rattle.beta_tree.specs.Edits.{below, split_loop, join_loops, split_children, appended_children, renumbered, reordered, is_permutation_of, with_level, moved_up, moved_down}
use Rattle.beta_tree.proofs.Places.{from_In-map, In-under, from_In-under, child_of_prefix, vector_of_child}
use Rattle.beta_tree.proofs.Counts.{Closed, below_count, above_count}
use Rattle.beta_tree.proofs.Grafts.{dense_under, dense_below, free_map, apart_below}
use Rattle.beta_tree.proofs.Fissions.{SplitsAt, fission_apart, fission_dense}
use Rattle.beta_tree.proofs.Fuses.{JoinsAt, fuse_apart, fuse_dense}
use Rattle.beta_tree.proofs.Orders.{and_left, and_right, orders_of_test, ChildrenBelow, reorder_apart, reorder_dense}
use Rattle.beta_tree.proofs.Levels.{put_zero, with_level_below, level_apart, level_dense}

-- the children of a prefix in a dense list

pub closed_children : (P : List ℕ) (V : List (List ℕ)) → IsDense V → Closed (heads (under P V))
closed_children P V d x y h l =
    let (w, i) = vector_of_child P x V h in
    let (u, k) = d P x y w i l in
    child_of_prefix P y u V k

pub child_below : (P : List ℕ) (y : ℕ) (w : List ℕ) (V : List (List ℕ)) → IsDense V → In (P ++ y ∷ w) V → y < children_of P V
child_below P y w V d i = below_count (heads (under P V)) (closed_children P V d) y (child_of_prefix P y w V i)

pub child_exists : (P : List ℕ) (y : ℕ) (V : List (List ℕ)) → IsDense V → y < children_of P V → (w : List ℕ) × In (P ++ y ∷ w) V
child_exists P y V d l = vector_of_child P y V (above_count (heads (under P V)) (closed_children P V d) y l)

-- an entry is below the number of vectors

length_heads : (V : List (List ℕ)) → length (heads V) ≤ length V
length_heads [] = omega arith
length_heads ([] ∷ V) = let h = length_heads V in omega arith
length_heads ((x ∷ v) ∷ V) = let h = length_heads V in omega arith

length_under : (P : List ℕ) (V : List (List ℕ)) → length (under P V) ≤ length V
length_under P [] = omega arith
length_under P (v ∷ V) =
    let h = length_under P V in
    elim (after P v) as (λ o. length (cons_option o (under P V)) ≤ length (v ∷ V)) [ None ↦ omega arith | Some w ↦ omega arith ]

pub children_few : (P : List ℕ) (V : List (List ℕ)) → children_of P V ≤ length V
children_few P V =
    let a = distinct_count-le eqb (heads (under P V)) in
    let b = length_heads (under P V) in
    let c = length_under P V in
    omega arith

fit_rest : (P w : List ℕ) (V : List (List ℕ)) → IsTree V → In (P ++ w) V → Fit w
fit_rest P [] V t i = tt
fit_rest P (x ∷ w) V t i =
    let a = child_below P x w V t.dense i in
    let b = children_few P V in
    let c = t.few in
    (omega arith, fit_rest (P ++ x ∷ []) w V t (rw append_assoc i))

pub fit_of_tree : (v : List ℕ) (V : List (List ℕ)) → IsTree V → In v V → Fit v
fit_of_tree v V t i = fit_rest [] v V t i

-- what the tests say

none_nil : (W : List (List ℕ)) → list_any is_nil W ≡ false → In [] W → ⊥
none_nil [] h i = i
none_nil (w ∷ W) h (inl e) = let k : (is_nil w || list_any is_nil W) ≡ false = h in let g : (is_nil {A = ℕ} [] || list_any is_nil W) ≡ false = subst (λ z. (is_nil z || list_any is_nil W) ≡ false) e k in cc
none_nil ([] ∷ W) h (inr i) = let k : true ≡ false = h in cc
none_nil ((x ∷ w) ∷ W) h (inr i) = none_nil W h i

pub no_leaf : (P : List ℕ) (V : List (List ℕ)) → is_leaf P V ≡ false → In P V → ⊥
no_leaf P V h i = none_nil (under P V) h (In-under P [] V (rw append-nil i))

some_nil : (W : List (List ℕ)) → list_any is_nil W ≡ true → In [] W
some_nil [] h = absurd (cc)
some_nil ([] ∷ W) h = inl refl
some_nil ((x ∷ w) ∷ W) h = inr (some_nil W h)

pub leaf_in : (P : List ℕ) (V : List (List ℕ)) → is_leaf P V ≡ true → In P V
leaf_in P V h = rw append-nil at (from_In-under P [] V (some_nil (under P V) h))

pub some_under : (P : List ℕ) (V : List (List ℕ)) → no_statement P V ≡ false → (u : List ℕ) × In u (under P V)
some_under P V h =
    elim (under P V) as (λ W. is_nil W ≡ false → (u : List ℕ) × In u W) [ [] ↦ λ e. absurd (cc) | u ∷ W ↦ λ e. (u, inl refl) ] h

pub not_true : (b : Bool) → not b ≡ true → b ≡ false
not_true true h = absurd (cc)
not_true false h = refl

pub loop_some : (P : List ℕ) (V : List (List ℕ)) → is_loop P V ≡ true → no_statement P V ≡ false
loop_some P V h = not_true (no_statement P V) (and_right (not (is_nil P)) (not (no_statement P V)) (and_left (not (is_nil P) && not (no_statement P V)) (not (is_leaf P V)) h))

pub loop_leafless : (P : List ℕ) (V : List (List ℕ)) → is_loop P V ≡ true → is_leaf P V ≡ false
loop_leafless P V h = not_true (is_leaf P V) (and_right (not (is_nil P) && not (no_statement P V)) (not (is_leaf P V)) h)

-- an edit below a prefix leaves no vector empty

below_nil : (Q : List ℕ) (f : List ℕ → List ℕ) (v : List ℕ) → ((u : List ℕ) → f u ≡ [] → u ≡ []) → below Q f v ≡ [] → v ≡ []
below_nil [] f v h e = h v e
below_nil (q ∷ Q) f [] h e = refl
below_nil (q ∷ Q) f (x ∷ v) h e =
    elim (x == q) as (λ t. (if t then x ∷ below Q f v else x ∷ v) ≡ [] → x ∷ v ≡ []) [ true ↦ λ k. absurd (cc) | false ↦ λ k. absurd (cc) ] e

pub filled_below : (Q : List ℕ) (f : List ℕ → List ℕ) (V : List (List ℕ)) → ((u : List ℕ) → f u ≡ [] → u ≡ []) → NoneEmpty V → NoneEmpty (map (below Q f) V)
filled_below Q f V h n i =
    let (v, k, e) = from_In-map (below Q f) [] V i in
    n (subst (λ z. In z V) (below_nil Q f v h e) k)

-- an edit below a prefix that keeps the subtree dense and free of prefixes
tree_below : (Q : List ℕ) (f : List ℕ → List ℕ) (V : List (List ℕ)) → IsTree V → (some : (u : List ℕ) × In u (under Q V)) → ((u : List ℕ) → f u ≡ [] → u ≡ []) → ((u v : List ℕ) → In u (under Q V) → In v (under Q V) → Apart u v → Apart (f u) (f v)) → IsDense (map f (under Q V)) → IsTree (map (below Q f) V)
tree_below Q f V t some nil apart dense = record {
  few = rw length-map t.few;
  filled = filled_below Q f V nil t.filled;
  free = free_map (below Q f) V (λ v w i j a. apart_below Q f v w (λ b c e g h. apart b c (In-under Q b V (subst (λ z. In z V) e i)) (In-under Q c V (subst (λ z. In z V) g j)) h) a) t.free;
  dense = dense_below Q f V some t.dense dense;
}

-- a prefix below another

pub one_more : (Q : List ℕ) (p : ℕ) (w : List ℕ) → (Q ++ p ∷ []) ++ w ≡ Q ++ p ∷ w
one_more Q p w = append_assoc Q (p ∷ []) w

pub under_front : (Q : List ℕ) (p : ℕ) (V : List (List ℕ)) → no_statement (Q ++ p ∷ []) V ≡ false → (w : List ℕ) × In (p ∷ w) (under Q V)
under_front Q p V h =
    let (w, i) = some_under (Q ++ p ∷ []) V h in
    (w, In-under Q (p ∷ w) V (subst (λ z. In z V) (one_more Q p w) (from_In-under (Q ++ p ∷ []) w V i)))

pub leafless_front : (Q : List ℕ) (p : ℕ) (V : List (List ℕ)) → is_loop (Q ++ p ∷ []) V ≡ true → In (p ∷ []) (under Q V) → ⊥
leafless_front Q p V h i = no_leaf (Q ++ p ∷ []) V (loop_leafless (Q ++ p ∷ []) V h) (from_In-under Q (p ∷ []) V i)

-- fission

split_children_nil : (p c : ℕ) (w : List ℕ) → split_children p c w ≡ [] → ⊥
split_children_nil p c [] e = cc
split_children_nil p c (y ∷ w) e =
    elim (nat_lt y c) as (λ t. (if t then p ∷ (y ∷ w) else (p + 1) ∷ ((y - c) ∷ w)) ≡ [] → ⊥) [ true ↦ λ k. cc | false ↦ λ k. cc ] e

split_nil : (p c : ℕ) (u : List ℕ) → split_loop p c u ≡ [] → u ≡ []
split_nil p c [] e = refl
split_nil p c (x ∷ w) e =
    elim (x == p) as (λ t. (if t then split_children p c w else moved_up p x ∷ w) ≡ [] → x ∷ w ≡ []) [ true ↦ λ k. absurd (split_children_nil p c w k) | false ↦ λ k. absurd (cc) ] e

pub fission_tree : (Q : List ℕ) (p c : ℕ) (V : List (List ℕ)) → IsTree V → is_loop (Q ++ p ∷ []) V ≡ true → 0 < c → c < children_of (Q ++ p ∷ []) V → IsTree (map (below Q (split_loop p c)) V)
fission_tree Q p c V t loop first within =
    let (w, i) = under_front Q p V (loop_some (Q ++ p ∷ []) V loop) in
    let (u, k) = child_exists (Q ++ p ∷ []) c V t.dense within in
    let splits : SplitsAt p c (under Q V) = record {
      leafless = leafless_front Q p V loop;
      first = first;
      child = (u, In-under Q (p ∷ (c ∷ u)) V (subst (λ z. In z V) (one_more Q p (c ∷ u)) k));
    } in
    tree_below Q (split_loop p c) V t (p ∷ w, i) (split_nil p c) (λ a b g h. fission_apart p c a b) (fission_dense p c (under Q V) splits (dense_under Q V t.dense))

-- fuse

appended_nil : (p n : ℕ) (w : List ℕ) → appended_children p n w ≡ [] → ⊥
appended_nil p n [] e = cc
appended_nil p n (y ∷ w) e = cc

join_nil : (p n : ℕ) (u : List ℕ) → join_loops p n u ≡ [] → u ≡ []
join_nil p n [] e = refl
join_nil p n (x ∷ w) e =
    elim (x == p + 1) as (λ t. (if t then appended_children p n w else moved_down p x ∷ w) ≡ [] → x ∷ w ≡ []) [ true ↦ λ k. absurd (appended_nil p n w k) | false ↦ λ k. absurd (cc) ] e

pub joins_at : (Q : List ℕ) (p : ℕ) (V : List (List ℕ)) → IsTree V → is_loop (Q ++ p ∷ []) V ≡ true → is_loop (Q ++ (p + 1) ∷ []) V ≡ true → JoinsAt p (children_of (Q ++ p ∷ []) V) (under Q V)
joins_at Q p V t loop next = record {
  leafless = leafless_front Q p V loop;
  next_leafless = leafless_front Q (p + 1) V next;
  next = under_front Q (p + 1) V (loop_some (Q ++ (p + 1) ∷ []) V next);
  below_n = λ y u k. child_below (Q ++ p ∷ []) y u V t.dense (subst (λ z. In z V) (sym (one_more Q p (y ∷ u))) (from_In-under Q (p ∷ (y ∷ u)) V k));
  child = λ y l. let (u, k) = child_exists (Q ++ p ∷ []) y V t.dense l in (u, In-under Q (p ∷ (y ∷ u)) V (subst (λ z. In z V) (one_more Q p (y ∷ u)) k));
}

pub fuse_tree : (Q : List ℕ) (p : ℕ) (V : List (List ℕ)) → IsTree V → is_loop (Q ++ p ∷ []) V ≡ true → is_loop (Q ++ (p + 1) ∷ []) V ≡ true → IsTree (map (below Q (join_loops p (children_of (Q ++ p ∷ []) V))) V)
fuse_tree Q p V t loop next =
    let (w, i) = under_front Q p V (loop_some (Q ++ p ∷ []) V loop) in
    let joins = joins_at Q p V t loop next in
    tree_below Q (join_loops p (children_of (Q ++ p ∷ []) V)) V t (p ∷ w, i) (join_nil p (children_of (Q ++ p ∷ []) V))
    (fuse_apart p (children_of (Q ++ p ∷ []) V) (under Q V) joins)
    (fuse_dense p (children_of (Q ++ p ∷ []) V) (under Q V) joins (dense_under Q V t.dense))

-- reorder

pub renumbered_nil : (order u : List ℕ) → renumbered order u ≡ [] → u ≡ []
renumbered_nil order [] e = refl
renumbered_nil order (x ∷ u) e = absurd (cc)

pub reorder_tree : (P order : List ℕ) (V : List (List ℕ)) → IsTree V → no_statement P V ≡ false → is_permutation_of (children_of P V) order ≡ true → IsTree (map (reordered P order) V)
reorder_tree P order V t some permutes =
    let o = orders_of_test (children_of P V) order permutes in
    let s : ChildrenBelow (children_of P V) (under P V) = record {
      below_n = λ y w i. child_below P y w V t.dense (from_In-under P (y ∷ w) V i);
      child = λ y l. let (w, i) = child_exists P y V t.dense l in (w, In-under P (y ∷ w) V i);
    } in
    tree_below P (renumbered order) V t (some_under P V some) (renumbered_nil order)
    (reorder_apart (children_of P V) order (under P V) o s)
    (reorder_dense (children_of P V) order (under P V) o s (dense_under P V t.dense))

-- a new level

put_zero_nil : (j : ℕ) (u : List ℕ) → put_zero j u ≡ [] → u ≡ []
put_zero_nil zero u e = absurd (cc)
put_zero_nil (suc j) [] e = refl
put_zero_nil (suc j) (x ∷ u) e = absurd (cc)

map_agree : {A B : Type 0} (f g : A → B) (xs : List A) → ((x : A) → f x ≡ g x) → map f xs ≡ map g xs
map_agree f g [] h = refl
map_agree f g (x ∷ xs) h = let a = h x in let b = map_agree f g xs h in cc

pub level_tree : (P : List ℕ) (k : ℕ) (V : List (List ℕ)) → IsTree V → length P ≤ k → ((w : List ℕ) → In (P ++ w) V → k < length (P ++ w)) → no_statement P V ≡ false → IsTree (map (with_level P k) V)
level_tree P k V t low longer some =
    rw (map_agree (with_level P k) (below P (put_zero (k - length P))) V (λ v. with_level_below P k v low))
    (tree_below P (put_zero (k - length P)) V t (some_under P V some) (put_zero_nil (k - length P))
    (λ a b i j h. level_apart (k - length P) a b h)
    (level_dense (k - length P) (under P V) (λ v i. let l = longer v (from_In-under P v V i) in let e = length-append P v in omega arith) (dense_under P V t.dense)))
