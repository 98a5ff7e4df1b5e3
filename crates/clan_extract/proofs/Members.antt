-- Members of lists that are appended, mapped and flattened, and members with their numbers.
use Rattle.std.proofs.Common.{◌≡◌, ◌⊎◌, inl, inr, ℕ, ◌+◌, List, [], ◌∷◌, ◌++◌, length, map, refl, sym, ap, subst, arith}
use Rattle.std.specs.Prelude.{flat_map}
use Rattle.scop_core.specs.Sequences.{In}

module _ {X : Type 0} (a : X) where
  pub in_left : (xs ys : List X) → In a xs → In a (xs ++ ys)
  in_left [] ys i = absurd i
  in_left (x ∷ xs) ys (inl e) = inl e
  in_left (x ∷ xs) ys (inr i) = inr (in_left xs ys i)

  pub in_right : (xs ys : List X) → In a ys → In a (xs ++ ys)
  in_right [] ys i = i
  in_right (x ∷ xs) ys i = inr (in_right xs ys i)

  pub in_append : (xs ys : List X) → In a (xs ++ ys) → In a xs ⊎ In a ys
  in_append [] ys i = inr i
  in_append (x ∷ xs) ys (inl e) = inl (inl e)
  in_append (x ∷ xs) ys (inr i) = by (in_append xs ys i)
    where
      by : In a xs ⊎ In a ys → ((x ≡ a) ⊎ In a xs) ⊎ In a ys
      by (inl j) = inl (inr j)
      by (inr j) = inr j

pub in_map : {X Y : Type 0} (f : X → Y) (x : X) (xs : List X) → In x xs → In (f x) (map f xs)
in_map f x [] i = absurd i
in_map f x (y ∷ xs) (inl e) = inl (ap f e)
in_map f x (y ∷ xs) (inr i) = inr (in_map f x xs i)

pub of_map : {X Y : Type 0} (f : X → Y) (y : Y) (xs : List X) → In y (map f xs) → (x : X) × In x xs × (f x ≡ y)
of_map f y [] i = absurd i
of_map f y (x ∷ xs) (inl e) = (x, inl refl, e)
of_map f y (x ∷ xs) (inr i) = let r = of_map f y xs i in (r.0, inr r.1, r.2)

pub in_flat : {X Y : Type 0} (f : X → List Y) (x : X) (y : Y) (xs : List X) → In x xs → In y (f x) → In y (flat_map f xs)
in_flat f x y [] i j = absurd i
in_flat f x y (z ∷ xs) (inl e) j = in_left y (f z) (flat_map f xs) (subst (λ u. In y (f u)) (sym e) j)
in_flat f x y (z ∷ xs) (inr i) j = in_right y (f z) (flat_map f xs) (in_flat f x y xs i j)

pub of_flat : {X Y : Type 0} (f : X → List Y) (y : Y) (xs : List X) → In y (flat_map f xs) → (x : X) × In x xs × In y (f x)
of_flat f y [] i = absurd i
of_flat f y (x ∷ xs) i = by (in_append y (f x) (flat_map f xs) i) (λ j. of_flat f y xs j)
  where
    by : In y (f x) ⊎ In y (flat_map f xs) → (In y (flat_map f xs) → (z : _) × In z xs × In y (f z)) → (z : _) × In z (x ∷ xs) × In y (f z)
    by (inl j) rest = (x, inl refl, j)
    by (inr j) rest = let r = rest j in (r.0, inr r.1, r.2)

-- x stands in the list at number j, counted on from k
abbrev pub Numbered : {X : Type 0} → ℕ → List X → ℕ → X → Type 0
Numbered k [] j x = ⊥
Numbered k (y ∷ ys) j x = ((k ≡ j) × (y ≡ x)) ⊎ Numbered (k + 1) ys j x

module _ {X : Type 0} (j : ℕ) (x : X) where
  pub numbered_left : (k : ℕ) (xs ys : List X) → Numbered k xs j x → Numbered k (xs ++ ys) j x
  numbered_left k [] ys h = absurd h
  numbered_left k (y ∷ xs) ys (inl e) = inl e
  numbered_left k (y ∷ xs) ys (inr h) = inr (numbered_left (k + 1) xs ys h)

  pub numbered_right : (k : ℕ) (xs ys : List X) → Numbered (k + length xs) ys j x → Numbered k (xs ++ ys) j x
  numbered_right k [] ys h = subst (λ m. Numbered m ys j x) (omega arith) h
  numbered_right k (y ∷ xs) ys h = inr (numbered_right (k + 1) xs ys (subst (λ m. Numbered m ys j x) (omega arith) h))

  pub numbered_append : (k : ℕ) (xs ys : List X) → Numbered k (xs ++ ys) j x → Numbered k xs j x ⊎ Numbered (k + length xs) ys j x
  numbered_append k [] ys h = inr (subst (λ m. Numbered m ys j x) (omega arith) h)
  numbered_append k (y ∷ xs) ys (inl e) = inl (inl e)
  numbered_append k (y ∷ xs) ys (inr h) = by (numbered_append (k + 1) xs ys h)
    where
      by : Numbered (k + 1) xs j x ⊎ Numbered (k + 1 + length xs) ys j x → (((k ≡ j) × (y ≡ x)) ⊎ Numbered (k + 1) xs j x) ⊎ Numbered (k + length (y ∷ xs)) ys j x
      by (inl i) = inl (inr i)
      by (inr i) = inr (subst (λ m. Numbered m ys j x) (omega arith) i)

  pub numbered_in : (k : ℕ) (xs : List X) → Numbered k xs j x → In x xs
  numbered_in k [] h = absurd h
  numbered_in k (y ∷ xs) (inl e) = inl e.1
  numbered_in k (y ∷ xs) (inr h) = inr (numbered_in (k + 1) xs h)

pub numbered_map : {X Y : Type 0} (f : X → Y) (k : ℕ) (xs : List X) (j : ℕ) (x : X) → Numbered k xs j x → Numbered k (map f xs) j (f x)
numbered_map f k [] j x h = absurd h
numbered_map f k (y ∷ xs) j x (inl e) = inl (e.0, ap f e.1)
numbered_map f k (y ∷ xs) j x (inr h) = inr (numbered_map f (k + 1) xs j x h)

pub of_numbered_map : {X Y : Type 0} (f : X → Y) (k : ℕ) (xs : List X) (j : ℕ) (y : Y) → Numbered k (map f xs) j y → (x : X) × Numbered k xs j x × (f x ≡ y)
of_numbered_map f k [] j y h = absurd h
of_numbered_map f k (x ∷ xs) j y (inl e) = (x, inl (e.0, refl), e.1)
of_numbered_map f k (x ∷ xs) j y (inr h) = let r = of_numbered_map f (k + 1) xs j y h in (r.0, inr r.1, r.2)
