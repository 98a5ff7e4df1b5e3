-- What each operation does to one vector.
use Rattle.std.specs.Prelude.{◌≡◌, ℕ, zero, suc, ◌+◌, ◌-◌, ◌==◌, nat_lt, Bool, true, if◌then◌else◌, ◌&&◌, is_some, List, [], ◌∷◌, ◌++◌, length, get_or, insert}
use Rattle.std.specs.List.{list_any}
use Rattle.std.specs.Cmp.Lexicographic.{pointwise}
use Rattle.std.proofs.Math.Dec.{eqb}
use Rattle.beta_tree.specs.Vectors.{after}

-- P without its last entry
abbrev pub front : List ℕ → List ℕ
front [] = []
front (p ∷ []) = []
front (p ∷ (q ∷ P)) = p ∷ front (q ∷ P)

-- the last entry of P
abbrev pub last : List ℕ → ℕ
last [] = 0
last (p ∷ []) = p
last (p ∷ (q ∷ P)) = last (q ∷ P)

-- the sibling right after P
abbrev pub next_sibling : List ℕ → List ℕ
next_sibling P = front P ++ (last P + 1) ∷ []

-- f at what follows P in v; a vector that doesn't begin with P stays
abbrev pub below : List ℕ → (List ℕ → List ℕ) → List ℕ → List ℕ
below [] f v = f v
below (p ∷ P) f [] = []
below (p ∷ P) f (x ∷ v) = if x == p then x ∷ below P f v else x ∷ v

-- the number of a sibling of p after a new one came right after p: later siblings move up by one
abbrev pub moved_up : ℕ → ℕ → ℕ
moved_up p x = if nat_lt p x then x + 1 else x

-- the number of a sibling of p after the one right after p is gone: later siblings move down by one
abbrev pub moved_down : ℕ → ℕ → ℕ
moved_down p x = if nat_lt p x then x - 1 else x

-- a child of p stays before number c; from c on the children become children 0, 1 and so on of the loop right after p
abbrev pub split_children : ℕ → ℕ → List ℕ → List ℕ
split_children p c [] = p ∷ []
split_children p c (y ∷ w) = if nat_lt y c then p ∷ (y ∷ w) else (p + 1) ∷ ((y - c) ∷ w)

-- fission of p among its siblings
abbrev pub split_loop : ℕ → ℕ → List ℕ → List ℕ
split_loop p c [] = []
split_loop p c (x ∷ w) = if x == p then split_children p c w else moved_up p x ∷ w

-- fission of P at its child c
abbrev pub fissioned : List ℕ → ℕ → List ℕ → List ℕ
fissioned P c = below (front P) (split_loop (last P) c)

-- the children of the sibling right after p follow the n children of p
abbrev pub appended_children : ℕ → ℕ → List ℕ → List ℕ
appended_children p n [] = p ∷ []
appended_children p n (y ∷ w) = p ∷ ((y + n) ∷ w)

-- fuse of p, which has n children, with the sibling right after it
abbrev pub join_loops : ℕ → ℕ → List ℕ → List ℕ
join_loops p n [] = []
join_loops p n (x ∷ w) = if x == p + 1 then appended_children p n w else moved_down p x ∷ w

-- fuse of P, which has n children, with its next sibling
abbrev pub fused : List ℕ → ℕ → List ℕ → List ℕ
fused P n = below (front P) (join_loops (last P) n)

-- the place of y in order, which lists the old numbers in their new order
abbrev pub place_of : ℕ → List ℕ → ℕ
place_of y [] = 0
place_of y (z ∷ order) = if z == y then 0 else place_of y order + 1

-- places has the place in order of each number, and lacks those that order lacks
pub record HasPlaces (order places : List ℕ) : Type 0 where
  pub at : (y : ℕ) → get_or places y (length order) ≡ place_of y order

-- a child gets its place in order as its number
abbrev pub renumbered : List ℕ → List ℕ → List ℕ
renumbered order [] = []
renumbered order (y ∷ w) = place_of y order ∷ w

-- reorder of the children of P
abbrev pub reordered : List ℕ → List ℕ → List ℕ → List ℕ
reordered P order = below P (renumbered order)

-- each number below n is in order
abbrev pub has_all_below : ℕ → List ℕ → Bool
has_all_below zero order = true
has_all_below (suc n) order = list_any (eqb n) order && has_all_below n order

-- order lists each of 0 .. n-1 once
abbrev pub is_permutation_of : ℕ → List ℕ → Bool
is_permutation_of n order = (length order == n) && has_all_below n order

-- a new loop at place k: a 0 there, in a vector that begins with P
abbrev pub with_level : List ℕ → ℕ → List ℕ → List ℕ
with_level P k v = if is_some (after P v) then insert v k 0 else v

-- later siblings of p move up by one
abbrev pub make_room : ℕ → List ℕ → List ℕ
make_room p [] = []
make_room p (x ∷ w) = moved_up p x ∷ w

-- u and v are the same vector
abbrev pub same_vector : List ℕ → List ℕ → Bool
same_vector u v = pointwise eqb u v

-- the leaf P gets a new leaf right after it; later siblings of P move up by one
abbrev pub leaf_split : List ℕ → List ℕ → List (List ℕ)
leaf_split P v = if same_vector v P then v ∷ (next_sibling P ∷ []) else below (front P) (make_room (last P)) v ∷ []
