-- Lists in which one entry was set, two were exchanged, or one was put in.
use Rattle.std.proofs.Common.{◌≡◌, ◌≢◌, inl, inr, ℕ, zero, suc, ◌<◌, List, [], ◌∷◌, length, map, get_or, set, ℤ, pos, refl, ap, sym, ◌∙◌, arith}
use Rattle.std.specs.Prelude.{swap, insert}
use Rattle.std.proofs.lemmas.List.{map-set, set-get_or, get_or-set_same, get_or-set_other, get_or-map, length-set}
use Rattle.std.proofs.lemmas.List.Edits.{swap_is}
use Rattle.row_core.specs.Rows.{entry}
use Rattle.scop_data.proofs.Stamps.{same_number}

rest_of : List ℤ → List ℤ
rest_of [] = []
rest_of (x ∷ xs) = xs

pub heads : (x y : ℤ) (v w : List ℤ) → x ∷ v ≡ y ∷ w → x ≡ y
heads x y v w e = ap (λ l. entry l 0) e

pub tails : (x y : ℤ) (v w : List ℤ) → x ∷ v ≡ y ∷ w → v ≡ w
unfolding rest_of
tails x y v w e = ap rest_of e

-- lists with one entry set that are equal: so are the entries that were set, and the lists with anything else set there
record SetApart (v w : List ℤ) (k : ℕ) (a b : ℤ) : Type 0 where
  entries : a ≡ b
  lists : (c : ℤ) → set v k c ≡ set w k c

set_apart : (v w : List ℤ) (k : ℕ) (a b : ℤ) → length v ≡ length w → k < length v → set v k a ≡ set w k b → SetApart v w k a b
set_apart [] w k a b e l h = absurd (omega arith)
set_apart (x ∷ v) [] k a b e l h = absurd (omega (arith, e))
set_apart (x ∷ v) (y ∷ w) zero a b e l h = record { entries = heads a b v w h; lists = λ c. ap (λ t. c ∷ t) (tails a b v w h) }
set_apart (x ∷ v) (y ∷ w) (suc k) a b e l h =
    let r = set_apart v w k a b (omega (arith, e)) (omega arith) (tails x y (set v k a) (set w k b) h) in
    record { entries = r.entries; lists = λ c. ap (λ z. z ∷ set v k c) (heads x y (set v k a) (set w k b) h) ∙ ap (λ t. y ∷ t) (r.lists c) }

pub set_entries : (v w : List ℤ) (k : ℕ) (a b : ℤ) → length v ≡ length w → k < length v → set v k a ≡ set w k b → a ≡ b
set_entries v w k a b e l h = (set_apart v w k a b e l h).entries

pub same_set : (v w : List ℤ) (k : ℕ) (a b : ℤ) → length v ≡ length w → k < length v → set v k a ≡ set w k b → entry v k ≡ entry w k → v ≡ w
same_set v w k a b e l h same =
    sym (set-get_or v k (pos 0)) ∙ (set_apart v w k a b e l h).lists (entry v k) ∙ ap (λ c. set w k c) same ∙ set-get_or w k (pos 0)

pub set_elsewhere : (v w : List ℤ) (k j : ℕ) (a b : ℤ) → j ≢ k → set v k a ≡ set w k b → entry v j ≡ entry w j
set_elsewhere v w k j a b d h = sym (get_or-set_other v k j a (pos 0) d) ∙ ap (λ l. entry l j) h ∙ get_or-set_other w k j b (pos 0) d

-- an exchange of one place with itself
same_place : (v : List ℤ) (i : ℕ) → swap v i i ≡ v
same_place [] i = refl
same_place (d ∷ ys) i = ap (λ t. set t i (get_or (d ∷ ys) i d)) (set-get_or (d ∷ ys) i d) ∙ set-get_or (d ∷ ys) i d

swap_apart : (v w : List ℤ) (i j : ℕ) → length v ≡ length w → i < length v → j < length v → i ≢ j
    → set (set v i (entry v j)) j (entry v i) ≡ set (set w i (entry w j)) j (entry w i) → v ≡ w
swap_apart v w i j e li lj d h =
    let vv = set v i (entry v j) in
    let ww = set w i (entry w j) in
    let long : length vv ≡ length ww = length-set v i (entry v j) ∙ e ∙ sym (length-set w i (entry w j)) in
    let ljv : j < length vv = omega (arith, length-set v i (entry v j)) in
    let liw : i < length w = omega (arith, e) in
    let at_i : entry v i ≡ entry w i = set_entries vv ww j (entry v i) (entry w i) long ljv h in
    let other : entry vv i ≡ entry ww i = set_elsewhere vv ww j i (entry v i) (entry w i) d h in
    let at_j : entry v j ≡ entry w j = sym (get_or-set_same v i (entry v j) (pos 0) li) ∙ other ∙ get_or-set_same w i (entry w j) (pos 0) liw in
    let back : j ≢ i = λ q. d (sym q) in
    let kept : entry vv j ≡ entry ww j = get_or-set_other v i j (entry v j) (pos 0) back ∙ at_j ∙ sym (get_or-set_other w i j (entry w j) (pos 0) back) in
    same_set v w i (entry v j) (entry w j) e li (same_set vv ww j (entry v i) (entry w i) long ljv h kept) at_i

pub swap_same : (v w : List ℤ) (i j : ℕ) → length v ≡ length w → i < length v → j < length v → swap v i j ≡ swap w i j → v ≡ w
swap_same v w i j e li lj h =
    elim (same_number i j) as (λ _. v ≡ w) [
      | inl q ↦ sym (ap (λ k. swap v i k) (sym q) ∙ same_place v i) ∙ h ∙ (ap (λ k. swap w i k) (sym q) ∙ same_place w i)
      | inr d ↦
          let liw : i < length w = omega (arith, e) in
          let ljw : j < length w = omega (arith, e) in
          swap_apart v w i j e li lj d (swap_is v i j (pos 0) li lj ∙ h ∙ sym (swap_is w i j (pos 0) liw ljw))
    ]

pub insert_same : (v w : List ℤ) (k : ℕ) (a b : ℤ) → length v ≡ length w → insert v k a ≡ insert w k b → v ≡ w
insert_same [] [] k a b e h = refl
insert_same [] (y ∷ w) k a b e h = absurd (omega (arith, e))
insert_same (x ∷ v) [] k a b e h = absurd (omega (arith, e))
insert_same (x ∷ v) (y ∷ w) zero a b e h = tails a b (x ∷ v) (y ∷ w) h
insert_same (x ∷ v) (y ∷ w) (suc k) a b e h =
    let rest : v ≡ w = insert_same v w k a b (omega (arith, e)) (tails x y (insert v k a) (insert w k b) h) in
    ap (λ z. z ∷ v) (heads x y (insert v k a) (insert w k b) h) ∙ ap (λ t. y ∷ t) rest

pub map_insert : {X Y : Type 0} (f : X → Y) (xs : List X) (k : ℕ) (a : X) → map f (insert xs k a) ≡ insert (map f xs) k (f a)
map_insert f xs zero a = refl
map_insert f [] (suc k) a = refl
map_insert f (x ∷ xs) (suc k) a = ap (λ t. f x ∷ t) (map_insert f xs k a)

pub map_swap : {X Y : Type 0} (f : X → Y) (xs : List X) (i j : ℕ) → i < length xs → j < length xs → map f (swap xs i j) ≡ swap (map f xs) i j
map_swap f [] i j li lj = refl
map_swap f (d ∷ ys) i j li lj =
    map-set f (set (d ∷ ys) i (get_or (d ∷ ys) j d)) j (get_or (d ∷ ys) i d)
    ∙ ap (λ t. set t j (f (get_or (d ∷ ys) i d))) (map-set f (d ∷ ys) i (get_or (d ∷ ys) j d))
    ∙ ap (λ z. set (set (map f (d ∷ ys)) i z) j (f (get_or (d ∷ ys) i d))) (sym (get_or-map f (d ∷ ys) j d (f d) lj))
    ∙ ap (λ z. set (set (map f (d ∷ ys)) i (get_or (map f (d ∷ ys)) j (f d))) j z) (sym (get_or-map f (d ∷ ys) i d (f d) li))
