-- Lists in the order of stamps: sorting by insertion.
use Rattle.std.proofs.Common.{◌≡◌, ◌⊎◌, inl, inr, List, [], ◌∷◌, ℤ, refl, sym, ◌∙◌, subst}
use Rattle.scop_data.specs.Order.{Before}
use Rattle.scop_data.specs.Sequences.{In, Precedes, Rising}
use Rattle.scop_data.proofs.Orders.{rest_is_rising, first_is_before, before_irreflexive, before_trans, two_members, precedes_is_before}

-- the order of two members: one stamp is before the other, or both are one
abbrev pub Placed : {X : Type 0} → (X → List ℤ) → X → X → Type 0
Placed stamp a b = Before (stamp a) (stamp b) ⊎ (Before (stamp b) (stamp a) ⊎ (a ≡ b))

-- a rising list with the members of L
pub record Sorted (X : Type 0) (stamp : X → List ℤ) (L : List X) : Type 0 where
  pub list : List X
  pub into : (a : X) → In a L → In a list
  pub back : (a : X) → In a list → In a L
  pub rising : Rising stamp list

-- one member more, before all others
rising_with : {X : Type 0} (stamp : X → List ℤ) (x : X) (xs : List X) → Rising stamp xs → ((a : X) → In a xs → Before (stamp x) (stamp a)) → Rising stamp (x ∷ xs)
rising_with stamp x [] r h = tt
rising_with stamp x (y ∷ ys) r h = (h y (inl refl), r)

-- x put into a rising list where its stamp belongs
inserted : {X : Type 0} (stamp : X → List ℤ) (x : X) (xs : List X) → Rising stamp xs → ((a : X) → In a xs → Placed stamp x a) → Sorted X stamp (x ∷ xs)
inserted stamp x [] r h = record { list = x ∷ []; into = λ a i. i; back = λ a i. i; rising = tt }
inserted {X = X} stamp x (y ∷ ys) r h =
    elim (h y (inl refl)) as (λ _. Sorted X stamp (x ∷ (y ∷ ys))) [
      | inl before ↦ record { list = x ∷ (y ∷ ys); into = λ a i. i; back = λ a i. i; rising = (before, r) }
      | inr (inl after) ↦ behind after (inserted stamp x ys (rest_is_rising stamp y ys r) (λ a i. h a (inr i)))
      | inr (inr same) ↦ record { list = y ∷ ys; into = once same; back = λ a i. inr i; rising = r }
    ]
  where
    once : x ≡ y → (a : X) → In a (x ∷ (y ∷ ys)) → In a (y ∷ ys)
    once e a (inl f) = inl (sym e ∙ f)
    once e a (inr i) = i

    behind : Before (stamp y) (stamp x) → Sorted X stamp (x ∷ ys) → Sorted X stamp (x ∷ (y ∷ ys))
    behind after s = record { list = y ∷ s.list; into = into; back = back; rising = rising_with stamp y s.list s.rising later }
      where
        into : (a : X) → In a (x ∷ (y ∷ ys)) → In a (y ∷ s.list)
        into a (inl e) = inr (s.into a (inl e))
        into a (inr (inl e)) = inl e
        into a (inr (inr i)) = inr (s.into a (inr i))

        back : (a : X) → In a (y ∷ s.list) → In a (x ∷ (y ∷ ys))
        back a (inl e) = inr (inl e)
        back a (inr i) = elim (s.back a i) as (λ _. In a (x ∷ (y ∷ ys))) [ inl e ↦ inl e | inr j ↦ inr (inr j) ]

        later : (a : X) → In a s.list → Before (stamp y) (stamp a)
        later a i = elim (s.back a i) as (λ _. Before (stamp y) (stamp a)) [
          | inl e ↦ subst (λ w. Before (stamp y) (stamp w)) e after
          | inr j ↦ first_is_before stamp y ys r a j
        ]

-- a list any two members of which are ordered or one, sorted; what stands in it more than once stands in it once then
pub sorted : {X : Type 0} (stamp : X → List ℤ) (L : List X) → ((a b : X) → In a L → In b L → Placed stamp a b) → Sorted X stamp L
sorted stamp [] h = record { list = []; into = λ a i. i; back = λ a i. i; rising = tt }
sorted {X = X} stamp (x ∷ xs) h = with_first (sorted stamp xs (λ a b i j. h a b (inr i) (inr j)))
  where
    both : (s : Sorted X stamp xs) → Sorted X stamp (x ∷ s.list) → Sorted X stamp (x ∷ xs)
    both s t = record { list = t.list; into = into; back = back; rising = t.rising }
      where
        into : (a : X) → In a (x ∷ xs) → In a t.list
        into a (inl e) = t.into a (inl e)
        into a (inr i) = t.into a (inr (s.into a i))

        back : (a : X) → In a t.list → In a (x ∷ xs)
        back a i = elim (t.back a i) as (λ _. In a (x ∷ xs)) [ inl e ↦ inl e | inr j ↦ inr (s.back a j) ]

    with_first : Sorted X stamp xs → Sorted X stamp (x ∷ xs)
    with_first s = both s (inserted stamp x s.list s.rising (λ a i. h x a (inl refl) (inr (s.back a i))))

-- two members of a rising list stand in the order of their stamps
pub before_precedes : {X : Type 0} (stamp : X → List ℤ) (L : List X) → Rising stamp L → (a b : X) → In a L → In b L → Before (stamp a) (stamp b) → Precedes L a b
before_precedes {X = X} stamp L r a b i j h = by (two_members L a b i j)
  where
    by : (a ≡ b) ⊎ (Precedes L a b ⊎ Precedes L b a) → Precedes L a b
    by (inl e) = absurd (before_irreflexive (stamp b) (subst (λ w. Before (stamp w) (stamp b)) e h))
    by (inr (inl p)) = p
    by (inr (inr p)) = absurd (before_irreflexive (stamp a) (before_trans (stamp a) (stamp b) (stamp a) h (precedes_is_before stamp L r b a p)))
