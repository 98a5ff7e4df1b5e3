-- Which member of a list stands at a place.
use Rattle.std.proofs.Common.{◌≡◌, ℕ, zero, suc, ◌<◌, inl, inr, Some, List, [], ◌∷◌, length, map, refl, sym, ◌∙◌, ap, subst, arith}
use Rattle.std.specs.Prelude.{All, slice_get}
use Rattle.std.proofs.lemmas.List.Elements.{All-head, All-tail}
use Rattle.beta_tree.specs.Vectors.{In}
use Rattle.beta_tree.proofs.Orders.{entry_at}

-- a stands at place i
abbrev pub Stands : {A : Type 0} → ℕ → A → List A → Type 0
Stands i a [] = ⊥
Stands zero a (x ∷ xs) = x ≡ a
Stands (suc i) a (x ∷ xs) = Stands i a xs

pub one_stands : {A : Type 0} (i : ℕ) (a b : A) (xs : List A) → Stands i a xs → Stands i b xs → a ≡ b
one_stands i a b [] h g = absurd h
one_stands zero a b (x ∷ xs) h g = sym h ∙ g
one_stands (suc i) a b (x ∷ xs) h g = one_stands i a b xs h g

pub stands_in : {A : Type 0} (i : ℕ) (a : A) (xs : List A) → Stands i a xs → In a xs
stands_in i a [] h = absurd h
stands_in zero a (x ∷ xs) h = inl h
stands_in (suc i) a (x ∷ xs) h = inr (stands_in i a xs h)

pub in_stands : {A : Type 0} (a : A) (xs : List A) → In a xs → (i : ℕ) × Stands i a xs
in_stands a [] h = absurd h
in_stands a (x ∷ xs) (inl e) = (0, e)
in_stands a (x ∷ xs) (inr h) = let (i, s) = in_stands a xs h in (suc i, s)

pub stands_below : {A : Type 0} (i : ℕ) (a : A) (xs : List A) → Stands i a xs → i < length xs
stands_below i a [] h = absurd h
stands_below zero a (x ∷ xs) h = omega arith
stands_below (suc i) a (x ∷ xs) h = let l = stands_below i a xs h in omega arith

pub some_stands : {A : Type 0} (i : ℕ) (xs : List A) → i < length xs → (a : A) × Stands i a xs
some_stands i [] l = absurd (omega arith)
some_stands zero (x ∷ xs) l = (x, refl)
some_stands (suc i) (x ∷ xs) l = some_stands i xs (omega arith)

pub stands_map : {A B : Type 0} (f : A → B) (i : ℕ) (a : A) (xs : List A) → Stands i a xs → Stands i (f a) (map f xs)
stands_map f i a [] h = absurd h
stands_map f zero a (x ∷ xs) h = ap f h
stands_map f (suc i) a (x ∷ xs) h = stands_map f i a xs h

pub map_stands : {A B : Type 0} (f : A → B) (i : ℕ) (b : B) (xs : List A) → Stands i b (map f xs) → (a : A) × Stands i a xs × (f a ≡ b)
map_stands f i b [] h = absurd h
map_stands f zero b (x ∷ xs) h = (x, refl, h)
map_stands f (suc i) b (x ∷ xs) h = map_stands f i b xs h

pub stands_get : {A : Type 0} (i : ℕ) (a : A) (xs : List A) → Stands i a xs → slice_get xs i ≡ Some a
stands_get i a [] h = absurd h
stands_get zero a (x ∷ xs) h = ap Some h
stands_get (suc i) a (x ∷ xs) h = stands_get i a xs h

pub stands_entry : (i a : ℕ) (xs : List ℕ) → Stands i a xs → entry_at xs i ≡ a
stands_entry i a [] h = absurd h
stands_entry zero a (x ∷ xs) h = h
stands_entry (suc i) a (x ∷ xs) h = stands_entry i a xs h

pub all_at : {A : Type 0} (P : A → Type 0) (i : ℕ) (a : A) (xs : List A) → All P xs → Stands i a xs → P a
all_at P i a [] all h = absurd h
all_at P zero a (x ∷ xs) all h = subst P h (All-head P x xs all)
all_at P (suc i) a (x ∷ xs) all h = all_at P i a xs (All-tail P x xs all) h
