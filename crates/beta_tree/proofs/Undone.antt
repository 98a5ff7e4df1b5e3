-- A fuse undoes a fission, and a reorder by the inverse order undoes a reorder.
use Rattle.std.proofs.Common.{◌≡◌, ◌≢◌, ℕ, zero, suc, ◌+◌, ◌-◌, ◌<◌, ◌≤◌, ◌^◌, ◌==◌, nat_lt, Bool, true, false, if◌then◌else◌, not, ◌&&◌, inl, inr, Some, None, Result, Ok, Err, List, [], ◌∷◌, ◌++◌, length, map, refl, sym, ◌∙◌, ap, subst, arith, eq-eqb, append-nil}
use Rattle.std.specs.List.{range_with_len, flat_map}
use Rattle.std.proofs.Math.Dec.{eqb}
use Rattle.std.proofs.lemmas.Bool.{ltb-true, eqb-true, eqb-false}
use Rattle.std.proofs.lemmas.List.{length-map}
use Rattle.std.proofs.lemmas.List.FromFn.{length-range_with_len}
use Rattle.beta_tree.specs.declared.refusals.BetaFail.{BetaFail}
use Rattle.beta_tree.specs.declared.refusals.BetaFail.TheVariants.{NoBeta, NotALoop, BadArgument}
use Rattle.beta_tree.specs.Vectors.{after, under, heads, children_of, is_nil, no_statement, is_leaf, is_loop, In, IsTree, LongerUnder}
use Rattle.beta_tree.specs.Edits.{front, last, next_sibling, below, split_loop, join_loops, fissioned, fused, renumbered, reordered, place_of, has_all_below, is_permutation_of, with_level, leaf_split}
use Rattle.beta_tree.specs.Answers.{fission_answer, fuse_answer, reorder_answer, level_answer, leaf_answer}
use Rattle.beta_tree.specs.Laws.{FuseUndoesFission, ReorderUndoesReorder, AnswersAreTrees, inverse_of}
use Rattle.beta_tree.proofs.Places.{bool_tells, same_yes, after_append, after_is, In-map, from_In-map, In-under, from_In-under, child_of_prefix, vector_of_child, below_append, below_other}
use Rattle.beta_tree.proofs.Distinct.{member_from_In}
use Rattle.beta_tree.proofs.Counts.{count_of_range}
use Rattle.beta_tree.proofs.Grafts.{grafted_below}
use Rattle.beta_tree.proofs.Loops.{join_earlier, join_next_leaf, split_before, split_from, join_split, from_split}
use Rattle.beta_tree.proofs.Fissions.{split_child_low}
use Rattle.beta_tree.proofs.Orders.{and_left, and_right, Orders, orders_of_test, entry_at, place_of_entry, entry_below, place_below}
use Rattle.beta_tree.proofs.Trees.{child_below, child_exists, some_under, leaf_in, no_leaf, loop_some, one_more, under_front, leafless_front, fission_tree, fuse_tree, reorder_tree, level_tree, renumbered_nil}
use Rattle.beta_tree.proofs.Leaves.{front_last}
use Rattle.beta_tree.proofs.Calls.{fuse_at, reorder_done, leaf_done, nil_no_leaf}

-- what an answer that is no refusal tells

step : (b : Bool) (x : BetaFail) (rest : Result (List (List ℕ)) BetaFail) (W : List (List ℕ)) → (if b then Err x else rest) ≡ Ok W → (b ≡ false) × (rest ≡ Ok W)
step true x rest W e = absurd (cc)
step false x rest W e = (refl, e)

not_false : (b : Bool) → not b ≡ false → b ≡ true
not_false true h = refl
not_false false h = absurd (cc)

-- a loop is what stands before its last entry, and that entry
pub loop_parts : (P : List ℕ) (V : List (List ℕ)) → is_loop P V ≡ true → P ≡ front P ++ last P ∷ []
loop_parts [] V h = absurd (cc)
loop_parts (p ∷ P) V h = sym (front_last p P)

abbrev fission_range : List ℕ → ℕ → List (List ℕ) → Result (List (List ℕ)) BetaFail
fission_range P c V = if not (nat_lt 0 c && nat_lt c (children_of P V)) then Err BadArgument else Ok (map (fissioned P c) V)

abbrev fission_loop : List ℕ → ℕ → List (List ℕ) → Result (List (List ℕ)) BetaFail
fission_loop P c V = if not (is_loop P V) then Err NotALoop else fission_range P c V

record FissionFacts (P : List ℕ) (c : ℕ) (V W : List (List ℕ)) : Type 0 where
  some : no_statement P V ≡ false
  loop : is_loop P V ≡ true
  first : 0 < c
  within : c < children_of P V
  is : W ≡ map (below (front P) (split_loop (last P) c)) V

fission_facts : (P : List ℕ) (c : ℕ) (V W : List (List ℕ)) → fission_answer P c V ≡ Ok W → FissionFacts P c V W
fission_facts P c V W h =
    let (a, h1) = step (no_statement P V) NoBeta (fission_loop P c V) W h in
    let (b, h2) = step (not (is_loop P V)) NotALoop (fission_range P c V) W h1 in
    let (d, h3) = step (not (nat_lt 0 c && nat_lt c (children_of P V))) BadArgument (Ok (map (fissioned P c) V)) W h2 in
    let both = not_false (nat_lt 0 c && nat_lt c (children_of P V)) d in
    record {
      some = a;
      loop = not_false (is_loop P V) b;
      first = ltb-true 0 c (and_left (nat_lt 0 c) (nat_lt c (children_of P V)) both);
      within = ltb-true c (children_of P V) (and_right (nat_lt 0 c) (nat_lt c (children_of P V)) both);
      is = cc;
    }

-- edits that undo each other

map_undone : {A : Type 0} (f g : A → A) (V : List A) → ((v : A) → In v V → g (f v) ≡ v) → map g (map f V) ≡ V
map_undone f g [] h = refl
map_undone f g (v ∷ V) h = let a = h v (inl refl) in let b = map_undone f g V (λ w i. h w (inr i)) in cc

below_undone : (Q : List ℕ) (f g : List ℕ → List ℕ) (v : List ℕ) → ((u : List ℕ) → v ≡ Q ++ u → g (f u) ≡ u) → below Q g (below Q f v) ≡ v
below_undone Q f g v h =
    elim (after Q v) as (λ o. after Q v ≡ o → below Q g (below Q f v) ≡ v) [
      | Some u ↦ λ e.
          let is : v ≡ Q ++ u = after_is Q v u e in
          ap (λ z. below Q g (below Q f z)) is ∙ (ap (below Q g) (below_append Q f u) ∙ (below_append Q g (f u) ∙ (ap (λ z. Q ++ z) (h u is) ∙ sym is)))
      | None ↦ λ e. ap (below Q g) (below_other Q f v e) ∙ below_other Q g v e
    ] refl

append_cancel : (Q u v : List ℕ) → Q ++ u ≡ Q ++ v → u ≡ v
append_cancel Q u v e = let k : Some u ≡ Some v = sym (after_append Q u) ∙ (ap (after Q) e ∙ after_append Q v) in cc

-- the subtree below Q after an edit there
module _ (Q : List ℕ) (f : List ℕ → List ℕ) (V : List (List ℕ)) (some : (u : List ℕ) × In u (under Q V)) where
  edited_in : (u : List ℕ) → In u (map f (under Q V)) → In (Q ++ u) (map (below Q f) V)
  edited_in u h = let g = grafted_below Q f V some in g.here u h

  from_edited : (u : List ℕ) → In (Q ++ u) (map (below Q f) V) → In u (map f (under Q V))
  from_edited u h =
      let g = grafted_below Q f V some in
      elim (g.into (Q ++ u) h) [
        | inl (w, e, i) ↦ subst (λ z. In z (map f (under Q V))) (sym (append_cancel Q u w e)) i
        | inr (none, i) ↦ absurd (let k : Some u ≡ None = sym (after_append Q u) ∙ none in cc)
      ]

some_statement : (P w : List ℕ) (V : List (List ℕ)) → In (P ++ w) V → no_statement P V ≡ false
some_statement P w V i =
    elim (under P V) as (λ W. In w W → is_nil W ≡ false) [ [] ↦ λ h. absurd h | u ∷ W ↦ λ h. refl ] (In-under P w V i)

leaf_test : (P : List ℕ) (V : List (List ℕ)) → (In P V → ⊥) → is_leaf P V ≡ false
leaf_test P V h = elim (bool_tells (is_leaf P V)) [ inl t ↦ absurd (h (leaf_in P V t)) | inr f ↦ f ]

-- fission, then fuse
undo_fission : (Q : List ℕ) (p c : ℕ) (V : List (List ℕ)) → IsTree V → is_loop (Q ++ p ∷ []) V ≡ true → 0 < c → c < children_of (Q ++ p ∷ []) V → fuse_answer (Q ++ p ∷ []) (map (below Q (split_loop p c)) V) ≡ Ok V
undo_fission Q p c V t loop first within =
    let f : List ℕ → List ℕ = split_loop p c in
    let W : List (List ℕ) = map (below Q (split_loop p c)) V in
    let (w0, i0) = under_front Q p V (loop_some (Q ++ p ∷ []) V loop) in
    let some : (u : List ℕ) × In u (under Q V) = (p ∷ w0, i0) in
    let tree : IsTree (map (below Q (split_loop p c)) V) = fission_tree Q p c V t loop first within in
    let leafless = leafless_front Q p V loop in
    let same : (x : ℕ) → x < c → (u : List ℕ) × In (Q ++ p ∷ (x ∷ u)) (map (below Q (split_loop p c)) V) = λ x l.
    let (u, i) = child_exists (Q ++ p ∷ []) x V t.dense (omega arith) in
    let j : In (p ∷ (x ∷ u)) (under Q V) = In-under Q (p ∷ (x ∷ u)) V (subst (λ z. In z V) (one_more Q p (x ∷ u)) i) in
    (u, edited_in Q (split_loop p c) V some (p ∷ (x ∷ u)) (subst (λ z. In z (map (split_loop p c) (under Q V))) (split_before p c x u l) (In-map (split_loop p c) (p ∷ (x ∷ u)) (under Q V) j))) in
    let (uc, ic) = child_exists (Q ++ p ∷ []) c V t.dense within in
    let jc : In (p ∷ (c ∷ uc)) (under Q V) = In-under Q (p ∷ (c ∷ uc)) V (subst (λ z. In z V) (one_more Q p (c ∷ uc)) ic) in
    let new : In (Q ++ (p + 1) ∷ ((c - c) ∷ uc)) (map (below Q (split_loop p c)) V) =
    edited_in Q (split_loop p c) V some ((p + 1) ∷ ((c - c) ∷ uc)) (subst (λ z. In z (map (split_loop p c) (under Q V))) (split_from p c c uc (omega arith)) (In-map (split_loop p c) (p ∷ (c ∷ uc)) (under Q V) jc)) in
    let (u0, k0) = same 0 first in
    let some_new : no_statement (Q ++ p ∷ []) (map (below Q (split_loop p c)) V) ≡ false = some_statement (Q ++ p ∷ []) (0 ∷ u0) (map (below Q (split_loop p c)) V) (subst (λ z. In z (map (below Q (split_loop p c)) V)) (sym (one_more Q p (0 ∷ u0))) k0) in
    let next_new : no_statement (Q ++ (p + 1) ∷ []) (map (below Q (split_loop p c)) V) ≡ false = some_statement (Q ++ (p + 1) ∷ []) ((c - c) ∷ uc) (map (below Q (split_loop p c)) V) (subst (λ z. In z (map (below Q (split_loop p c)) V)) (sym (one_more Q (p + 1) ((c - c) ∷ uc))) new) in
    let leafless_new : is_leaf (Q ++ p ∷ []) (map (below Q (split_loop p c)) V) ≡ false = leaf_test (Q ++ p ∷ []) (map (below Q (split_loop p c)) V) (λ i.
    leafless (subst (λ z. In z (under Q V)) (join_earlier p c p [] (omega arith)) (from_split p c (under Q V) (p ∷ []) (from_edited Q (split_loop p c) V some (p ∷ []) i)))) in
    let next_leafless : is_leaf (Q ++ (p + 1) ∷ []) (map (below Q (split_loop p c)) V) ≡ false = leaf_test (Q ++ (p + 1) ∷ []) (map (below Q (split_loop p c)) V) (λ i.
    leafless (subst (λ z. In z (under Q V)) (join_next_leaf p c) (from_split p c (under Q V) ((p + 1) ∷ []) (from_edited Q (split_loop p c) V some ((p + 1) ∷ []) i)))) in
    let count : children_of (Q ++ p ∷ []) (map (below Q (split_loop p c)) V) ≡ c = count_of_range c (heads (under (Q ++ p ∷ []) (map (below Q (split_loop p c)) V)))
    (λ x l. let (u, i) = same x l in child_of_prefix (Q ++ p ∷ []) x u (map (below Q (split_loop p c)) V) (subst (λ z. In z (map (below Q (split_loop p c)) V)) (sym (one_more Q p (x ∷ u))) i))
    (λ x h.
    let (u, i) = vector_of_child (Q ++ p ∷ []) x (map (below Q (split_loop p c)) V) h in
    let (v, j, e) = from_In-map (split_loop p c) (p ∷ (x ∷ u)) (under Q V) (from_edited Q (split_loop p c) V some (p ∷ (x ∷ u)) (subst (λ z. In z (map (below Q (split_loop p c)) V)) (one_more Q p (x ∷ u)) i)) in
    split_child_low p c x u v e) in
    let fuses = fuse_at Q p (map (below Q (split_loop p c)) V) tree some_new next_new leafless_new next_leafless in
    let back : map (below Q (join_loops p c)) (map (below Q (split_loop p c)) V) ≡ V = map_undone (below Q (split_loop p c)) (below Q (join_loops p c)) V (λ v i. below_undone Q (split_loop p c) (join_loops p c) v (λ u e. join_split p c u)) in
    fuses.answer_is ∙ ap (λ z. Ok z) (ap (λ n. map (below Q (join_loops p n)) (map (below Q (split_loop p c)) V)) count ∙ back)

pub fuse_undoes_fission : FuseUndoesFission
fuse_undoes_fission P c V W t h =
    let k = fission_facts P c V W h in
    let is : P ≡ front P ++ last P ∷ [] = loop_parts P V k.loop in
    let loop : is_loop (front P ++ last P ∷ []) V ≡ true = subst (λ z. is_loop z V ≡ true) is k.loop in
    let within : c < children_of (front P ++ last P ∷ []) V = subst (λ z. c < children_of z V) is k.within in
    let undone = undo_fission (front P) (last P) c V t loop k.first within in
    subst (λ z. fuse_answer P z ≡ Ok V) (sym k.is) (subst (λ z. fuse_answer z (map (below (front P) (split_loop (last P) c)) V) ≡ Ok V) (sym is) undone)

-- the inverse of an order

in_range : (s n y : ℕ) → s ≤ y → y < s + n → In y (range_with_len s n)
in_range s zero y low high = absurd (omega arith)
in_range s (suc n) y low high =
    elim (bool_tells (s == y)) [
      | inl t ↦ inl (eqb-true s y t)
      | inr f ↦ let ne : s ≢ y = eqb-false s y f in inr (in_range (s + 1) n y (omega arith) (omega arith))
    ]

entry_of_map : (f : ℕ → ℕ) (s n i : ℕ) → i < n → entry_at (map f (range_with_len s n)) i ≡ f (s + i)
entry_of_map f s zero i l = absurd (omega arith)
entry_of_map f s (suc n) zero l = ap f (omega arith)
entry_of_map f s (suc n) (suc i) l = entry_of_map f (s + 1) n i (omega arith) ∙ ap f (omega arith)

all_below_test : (n : ℕ) (order : List ℕ) → ((k : ℕ) → k < n → In k order) → has_all_below n order ≡ true
all_below_test zero order h = refl
all_below_test (suc n) order h =
    rw (member_from_In eqb eqb-true same_yes n order (h n (omega arith))) (all_below_test n order (λ k l. h k (omega arith)))

test_of_orders : (n : ℕ) (order : List ℕ) → Orders n order → is_permutation_of n order ≡ true
test_of_orders n order o = rw (eq-eqb (length order) n o.long) (all_below_test n order o.all)

length_inverse : (order : List ℕ) → length (inverse_of order) ≡ length order
length_inverse order = length-map (range_with_len 0 (length order)) (λ k. place_of k order) ∙ length-range_with_len 0 (length order)

inverse_orders : (n : ℕ) (order : List ℕ) → Orders n order → Orders n (inverse_of order)
inverse_orders n order o = record {
  long = length_inverse order ∙ o.long;
  all = λ k l.
      let low : entry_at order k < n = entry_below n order o k l in
      let within : entry_at order k < 0 + length order = let e = o.long in omega arith in
      subst (λ z. In z (inverse_of order)) (place_of_entry n order o k l)
      (In-map (λ z. place_of z order) (entry_at order k) (range_with_len 0 (length order)) (in_range 0 (length order) (entry_at order k) (omega arith) within));
}

-- a number's place in the inverse order is its entry in the order
place_back : (n : ℕ) (order : List ℕ) → Orders n order → (y : ℕ) → y < n → place_of (place_of y order) (inverse_of order) ≡ y
place_back n order o y l =
    let within : y < length order = let e = o.long in omega arith in
    let entry : entry_at (inverse_of order) y ≡ place_of y order = entry_of_map (λ z. place_of z order) 0 (length order) y within ∙ ap (λ z. place_of z order) (omega arith) in
    ap (λ z. place_of z (inverse_of order)) (sym entry) ∙ place_of_entry n (inverse_of order) (inverse_orders n order o) y l

renumbered_back : (n : ℕ) (order u : List ℕ) → Orders n order → ((y : ℕ) (w : List ℕ) → u ≡ y ∷ w → y < n) → renumbered (inverse_of order) (renumbered order u) ≡ u
renumbered_back n order [] o h = refl
renumbered_back n order (y ∷ w) o h = ap (λ z. z ∷ w) (place_back n order o y (h y w refl))

head_of_renumbered : (order v u : List ℕ) (x : ℕ) → renumbered order v ≡ x ∷ u → (a : ℕ) × (v ≡ a ∷ u) × (place_of a order ≡ x)
head_of_renumbered order [] u x e = absurd (cc)
head_of_renumbered order (a ∷ v) u x e = let e2 : v ≡ u = cc in let e3 : place_of a order ≡ x = cc in (a, ap (λ z. a ∷ z) e2, e3)

-- reorder, then reorder by the inverse
undo_reorder : (P order : List ℕ) (V : List (List ℕ)) → IsTree V → no_statement P V ≡ false → is_leaf P V ≡ false → is_permutation_of (children_of P V) order ≡ true → reorder_answer P (inverse_of order) (map (reordered P order) V) ≡ Ok V
undo_reorder P order V t someP leafless permutes =
    let o = orders_of_test (children_of P V) order permutes in
    let some = some_under P V someP in
    let tree : IsTree (map (reordered P order) V) = reorder_tree P order V t someP permutes in
    let below_n : (y : ℕ) (w : List ℕ) → In (y ∷ w) (under P V) → y < children_of P V = λ y w i. child_below P y w V t.dense (from_In-under P (y ∷ w) V i) in
    let moved : (x : ℕ) → x < children_of P V → (u : List ℕ) × In (P ++ x ∷ u) (map (reordered P order) V) = λ x l.
    let (u, i) = child_exists P (entry_at order x) V t.dense (entry_below (children_of P V) order o x l) in
    (u, edited_in P (renumbered order) V some (x ∷ u) (subst (λ z. In (z ∷ u) (map (renumbered order) (under P V))) (place_of_entry (children_of P V) order o x l) (In-map (renumbered order) (entry_at order x ∷ u) (under P V) (In-under P (entry_at order x ∷ u) V i)))) in
    let count : children_of P (map (reordered P order) V) ≡ children_of P V = count_of_range (children_of P V) (heads (under P (map (reordered P order) V)))
    (λ x l. let (u, i) = moved x l in child_of_prefix P x u (map (reordered P order) V) i)
    (λ x h.
    let (u, i) = vector_of_child P x (map (reordered P order) V) h in
    let (v, j, e) = from_In-map (renumbered order) (x ∷ u) (under P V) (from_edited P (renumbered order) V some (x ∷ u) i) in
    let (a, is, at) = head_of_renumbered order v u x e in
    let low : a < children_of P V = below_n a u (subst (λ z. In z (under P V)) is j) in
    let place = place_below a order (o.all a low) in
    let long = o.long in
    omega arith) in
    let (w0, i0) = some in
    let someW : no_statement P (map (reordered P order) V) ≡ false = some_statement P (renumbered order w0) (map (reordered P order) V) (edited_in P (renumbered order) V some (renumbered order w0) (In-map (renumbered order) w0 (under P V) i0)) in
    let leaflessW : is_leaf P (map (reordered P order) V) ≡ false = leaf_test P (map (reordered P order) V) (λ i.
    let j : In (P ++ []) (map (reordered P order) V) = rw append-nil i in
    let (v, k, e) = from_In-map (renumbered order) [] (under P V) (from_edited P (renumbered order) V some [] j) in
    let nil : v ≡ [] = renumbered_nil order v e in
    let leaf : In P V = rw append-nil at (from_In-under P [] V (subst (λ z. In z (under P V)) nil k)) in
    no_leaf P V leafless leaf) in
    let permutesW : is_permutation_of (children_of P (map (reordered P order) V)) (inverse_of order) ≡ true = rw count (test_of_orders (children_of P V) (inverse_of order) (inverse_orders (children_of P V) order o)) in
    let again = reorder_done P (inverse_of order) (map (reordered P order) V) tree someW leaflessW permutesW in
    let back : map (reordered P (inverse_of order)) (map (reordered P order) V) ≡ V = map_undone (reordered P order) (reordered P (inverse_of order)) V (λ v i. below_undone P (renumbered order) (renumbered (inverse_of order)) v (λ u e. renumbered_back (children_of P V) order u o (λ y w f. below_n y w (subst (λ z. In z (under P V)) f (In-under P u V (subst (λ z. In z V) e i)))))) in
    again.answer_is ∙ ap (λ z. Ok z) back

abbrev reorder_late : List ℕ → List ℕ → List (List ℕ) → Result (List (List ℕ)) BetaFail
reorder_late P order V = if not (is_permutation_of (children_of P V) order) then Err BadArgument else Ok (map (reordered P order) V)

record ReorderFacts (P order : List ℕ) (V W : List (List ℕ)) : Type 0 where
  some : no_statement P V ≡ false
  leafless : is_leaf P V ≡ false
  permutes : is_permutation_of (children_of P V) order ≡ true
  is : W ≡ map (reordered P order) V

reorder_facts : (P order : List ℕ) (V W : List (List ℕ)) → reorder_answer P order V ≡ Ok W → ReorderFacts P order V W
reorder_facts P order V W h =
    let (a, h1) = step (no_statement P V) NoBeta (if is_leaf P V then Err NotALoop else reorder_late P order V) W h in
    let (b, h2) = step (is_leaf P V) NotALoop (reorder_late P order V) W h1 in
    let (d, h3) = step (not (is_permutation_of (children_of P V) order)) BadArgument (Ok (map (reordered P order) V)) W h2 in
    record { some = a; leafless = b; permutes = not_false (is_permutation_of (children_of P V) order) d; is = cc }

pub reorder_undoes_reorder : ReorderUndoesReorder
reorder_undoes_reorder P order V W t h =
    let k = reorder_facts P order V W h in
    subst (λ z. reorder_answer P (inverse_of order) z ≡ Ok V) (sym k.is) (undo_reorder P order V t k.some k.leafless k.permutes)

-- what the operations make of a tree

fission_is_tree : (P : List ℕ) (c : ℕ) (V W : List (List ℕ)) → IsTree V → fission_answer P c V ≡ Ok W → IsTree W
fission_is_tree P c V W t h =
    let k = fission_facts P c V W h in
    let is : P ≡ front P ++ last P ∷ [] = loop_parts P V k.loop in
    subst IsTree (sym k.is) (fission_tree (front P) (last P) c V t (subst (λ z. is_loop z V ≡ true) is k.loop) k.first (subst (λ z. c < children_of z V) is k.within))

abbrev fuse_loops : List ℕ → List (List ℕ) → Result (List (List ℕ)) BetaFail
fuse_loops P V = if not (is_loop P V && is_loop (next_sibling P) V) then Err NotALoop else Ok (map (fused P (children_of P V)) V)

abbrev fuse_late : List ℕ → List (List ℕ) → Result (List (List ℕ)) BetaFail
fuse_late P V = if not (is_nil P) && no_statement (next_sibling P) V then Err NoBeta else fuse_loops P V

pub record FuseFacts (P : List ℕ) (V W : List (List ℕ)) : Type 0 where
  pub loop : is_loop P V ≡ true
  pub next : is_loop (front P ++ (last P + 1) ∷ []) V ≡ true
  pub is : W ≡ map (below (front P) (join_loops (last P) (children_of P V))) V

pub fuse_facts : (P : List ℕ) (V W : List (List ℕ)) → fuse_answer P V ≡ Ok W → FuseFacts P V W
fuse_facts P V W h =
    let (a, h1) = step (no_statement P V) NoBeta (fuse_late P V) W h in
    let (b, h2) = step (not (is_nil P) && no_statement (next_sibling P) V) NoBeta (fuse_loops P V) W h1 in
    let (d, h3) = step (not (is_loop P V && is_loop (next_sibling P) V)) NotALoop (Ok (map (fused P (children_of P V)) V)) W h2 in
    let both = not_false (is_loop P V && is_loop (next_sibling P) V) d in
    record {
      loop = and_left (is_loop P V) (is_loop (next_sibling P) V) both;
      next = and_right (is_loop P V) (is_loop (next_sibling P) V) both;
      is = cc;
    }

fuse_is_tree : (P : List ℕ) (V W : List (List ℕ)) → IsTree V → fuse_answer P V ≡ Ok W → IsTree W
fuse_is_tree P V W t h =
    let k = fuse_facts P V W h in
    let is : P ≡ front P ++ last P ∷ [] = loop_parts P V k.loop in
    let tree = fuse_tree (front P) (last P) V t (subst (λ z. is_loop z V ≡ true) is k.loop) k.next in
    subst IsTree (sym k.is) (subst (λ z. IsTree (map (below (front P) (join_loops (last P) (children_of z V))) V)) (sym is) tree)

reorder_is_tree : (P order : List ℕ) (V W : List (List ℕ)) → IsTree V → reorder_answer P order V ≡ Ok W → IsTree W
reorder_is_tree P order V W t h = let k = reorder_facts P order V W h in subst IsTree (sym k.is) (reorder_tree P order V t k.some k.permutes)

level_is_tree : (P : List ℕ) (k : ℕ) (V W : List (List ℕ)) → IsTree V → length P ≤ k → LongerUnder P k V → level_answer P k V ≡ Ok W → IsTree W
level_is_tree P k V W t low longer h =
    let (a, h1) = step (no_statement P V) NoBeta (Ok (map (with_level P k) V)) W h in
    let is : map (with_level P k) V ≡ W = cc in
    subst IsTree is (level_tree P k V t low longer a)

leaf_is_tree : (P : List ℕ) (V W : List (List ℕ)) → IsTree V → length V + 1 < 2 ^ 32 → leaf_answer P V ≡ Ok W → IsTree W
leaf_is_tree [] V W t few h =
    let (a, h1) = step (no_statement [] V) NoBeta (if not (is_leaf [] V) then Err BadArgument else Ok (flat_map (leaf_split []) V)) W h in
    let (b, h2) = step (not (is_leaf [] V)) BadArgument (Ok (flat_map (leaf_split []) V)) W h1 in
    let leaf = not_false (is_leaf [] V) b in
    absurd (let none = nil_no_leaf V t in let e : true ≡ false = sym leaf ∙ none in cc)
leaf_is_tree (p ∷ P) V W t few h =
    let (a, h1) = step (no_statement (p ∷ P) V) NoBeta (if not (is_leaf (p ∷ P) V) then Err BadArgument else Ok (flat_map (leaf_split (p ∷ P)) V)) W h in
    let (b, h2) = step (not (is_leaf (p ∷ P) V)) BadArgument (Ok (flat_map (leaf_split (p ∷ P)) V)) W h1 in
    let leaf = not_false (is_leaf (p ∷ P) V) b in
    let done = leaf_done (front (p ∷ P)) (p ∷ P) (last (p ∷ P)) V t few (sym (front_last p P)) a leaf in
    let is : flat_map (leaf_split (p ∷ P)) V ≡ W = cc in
    subst IsTree is done.tree

pub answers_are_trees : AnswersAreTrees
answers_are_trees = (fission_is_tree, fuse_is_tree, reorder_is_tree, level_is_tree, leaf_is_tree)
