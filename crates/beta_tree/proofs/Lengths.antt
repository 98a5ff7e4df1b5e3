-- The lengths of vectors after each operation, and the sizes of their entries.
use Rattle.std.proofs.Common.{◌≡◌, ℕ, ◌+◌, ◌==◌, ◌-◌, nat_lt, true, false, if◌then◌else◌, inl, inr, List, [], ◌∷◌, ◌++◌, length, refl, ap, ◌∙◌, subst, arith, length-append}
use Rattle.std.specs.Prelude.{insert, is_some}
use Rattle.std.proofs.lemmas.List.Edits.{length-insert}
use Rattle.beta_tree.specs.Vectors.{after, In, Apart, ApartFromAll, PrefixFree}
use Rattle.beta_tree.specs.Edits.{below, front, last, make_room, split_loop, split_children, join_loops, appended_children, renumbered, moved_up, moved_down}
use Rattle.beta_tree.specs.Lengths.{OperationsKeepLengths, LevelAddsOne, SiblingIsAsLong, EntriesAreFew, LeafIsOne}
use Rattle.beta_tree.proofs.Places.{after_append}
use Rattle.beta_tree.proofs.Trees.{child_below, children_few}

long_below : (Q : List ℕ) (f : List ℕ → List ℕ) → ((u : List ℕ) → length (f u) ≡ length u) → (v : List ℕ) → length (below Q f v) ≡ length v
long_below [] f keeps v = keeps v
long_below (q ∷ Q) f keeps [] = refl
long_below (q ∷ Q) f keeps (x ∷ v) =
    let more = long_below Q f keeps v in
    elim (x == q) as (λ t. length (if t then x ∷ below Q f v else x ∷ v) ≡ length (x ∷ v)) [ true ↦ omega arith | false ↦ refl ]

long_split : (p c : ℕ) (w : List ℕ) → length (split_children p c w) ≡ 1 + length w
long_split p c [] = refl
long_split p c (y ∷ w) = elim (nat_lt y c) as (λ t. length (if t then p ∷ (y ∷ w) else (p + 1) ∷ ((y - c) ∷ w)) ≡ 1 + length (y ∷ w)) [ true ↦ omega arith | false ↦ omega arith ]

long_split_loop : (p c : ℕ) (u : List ℕ) → length (split_loop p c u) ≡ length u
long_split_loop p c [] = refl
long_split_loop p c (x ∷ w) =
    let more = long_split p c w in
    elim (x == p) as (λ t. length (if t then split_children p c w else moved_up p x ∷ w) ≡ length (x ∷ w)) [ true ↦ omega arith | false ↦ refl ]

long_appended : (p n : ℕ) (w : List ℕ) → length (appended_children p n w) ≡ 1 + length w
long_appended p n [] = refl
long_appended p n (y ∷ w) = omega arith

long_join : (p n : ℕ) (u : List ℕ) → length (join_loops p n u) ≡ length u
long_join p n [] = refl
long_join p n (x ∷ w) =
    let more = long_appended p n w in
    elim (x == p + 1) as (λ t. length (if t then appended_children p n w else moved_down p x ∷ w) ≡ length (x ∷ w)) [ true ↦ omega arith | false ↦ refl ]

long_renumbered : (order u : List ℕ) → length (renumbered order u) ≡ length u
long_renumbered order [] = refl
long_renumbered order (y ∷ w) = refl

long_room : (p : ℕ) (u : List ℕ) → length (make_room p u) ≡ length u
long_room p [] = refl
long_room p (x ∷ w) = refl

pub operations_keep_lengths : OperationsKeepLengths
operations_keep_lengths = (
  λ P c. record { same = long_below (front P) (split_loop (last P) c) (long_split_loop (last P) c) },
  λ P n. record { same = long_below (front P) (join_loops (last P) n) (long_join (last P) n) },
  λ P order. record { same = long_below P (renumbered order) (long_renumbered order) },
  λ P. record { same = long_below (front P) (make_room (last P)) (long_room (last P)) },
)

pub level_adds_one : LevelAddsOne
level_adds_one P w k l =
    let begins : is_some (after P (P ++ w)) ≡ true = ap (λ o. is_some o) (after_append P w) in
    ap (λ t. length (if t then insert (P ++ w) k 0 else P ++ w)) begins ∙ length-insert (P ++ w) k 0 l

long_front : (x : ℕ) (P : List ℕ) → length (front (x ∷ P)) ≡ length P
long_front x [] = refl
long_front x (y ∷ P) = let more = long_front y P in omega arith

pub sibling_is_as_long : SiblingIsAsLong
sibling_is_as_long P x =
    let front_long = long_front x P in
    length-append (front (x ∷ P)) ((last (x ∷ P) + 1) ∷ []) ∙ (omega arith)

pub entries_are_few : EntriesAreFew
entries_are_few V P w x t i =
    let below_children = child_below P x w V t.dense i in
    let few = children_few P V in
    omega arith

apart_self : (v : List ℕ) → Apart v v → ⊥
apart_self [] h = h
apart_self (x ∷ v) (inl ne) = ne refl
apart_self (x ∷ v) (inr h) = apart_self v h

apart_member : (v u : List ℕ) (V : List (List ℕ)) → ApartFromAll v V → In u V → Apart v u
apart_member v u [] a i = absurd i
apart_member v u (w ∷ V) a (inl e) = subst (λ t. Apart v t) e a.0
apart_member v u (w ∷ V) a (inr i) = apart_member v u V a.1 i

in_middle : (V W : List (List ℕ)) (v : List ℕ) → In v (V ++ v ∷ W)
in_middle [] W v = inl refl
in_middle (w ∷ V) W v = inr (in_middle V W v)

leaf_is_one_free : (V W : List (List ℕ)) (v u : List ℕ) → PrefixFree (V ++ v ∷ W) → In u (V ++ W) → u ≡ v → ⊥
leaf_is_one_free [] W v u free i e = apart_self v (subst (λ t. Apart v t) e (apart_member v u W free.0 i))
leaf_is_one_free (w ∷ V) W v u free (inl same) e =
    let both : Apart w v = apart_member w v (V ++ v ∷ W) free.0 (in_middle V W v) in
    apart_self v (subst (λ t. Apart t v) (same ∙ e) both)
leaf_is_one_free (w ∷ V) W v u free (inr i) e = leaf_is_one_free V W v u free.1 i e

pub leaf_is_one : LeafIsOne
leaf_is_one V W v u t i e = leaf_is_one_free V W v u t.free i e
