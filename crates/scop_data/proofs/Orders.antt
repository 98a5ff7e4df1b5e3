-- Before is a strict order; a rising list is determined by its members.
use Rattle.std.proofs.Common.{◌≡◌, ◌⊎◌, inl, inr, List, [], ◌∷◌, ℤ, refl, sym, ◌∙◌, ap, subst, arith}
use Rattle.std.proofs.lemmas.Int.{ints}
use Rattle.scop_data.specs.Order.{Before}
use Rattle.scop_data.specs.Sequences.{In, Precedes, Distinct, Rising, RunOf}

pub before_trans : (p q r : List ℤ) → Before p q → Before q r → Before p r
before_trans [] q r h k = absurd h
before_trans (x ∷ p) [] r h k = absurd h
before_trans (x ∷ p) (y ∷ q) [] h k = absurd k
before_trans (x ∷ p) (y ∷ q) (z ∷ r) (inl a) (inl b) = inl (omega (arith, ints))
before_trans (x ∷ p) (y ∷ q) (z ∷ r) (inl a) (inr b) = let e = b.0 in inl (omega (arith, ints))
before_trans (x ∷ p) (y ∷ q) (z ∷ r) (inr a) (inl b) = let e = a.0 in inl (omega (arith, ints))
before_trans (x ∷ p) (y ∷ q) (z ∷ r) (inr a) (inr b) = inr (a.0 ∙ b.0, before_trans p q r a.1 b.1)

pub before_irreflexive : (p : List ℤ) → ¬ Before p p
before_irreflexive [] h = h
before_irreflexive (x ∷ p) (inl a) = absurd (omega (arith, ints))
before_irreflexive (x ∷ p) (inr a) = before_irreflexive p a.1

-- the first of a rising list is before all others
pub first_is_before : {X : Type 0} (stamp : X → List ℤ) (x : X) (xs : List X) → Rising stamp (x ∷ xs) → (a : X) → In a xs → Before (stamp x) (stamp a)
first_is_before stamp x [] r a i = absurd i
first_is_before stamp x (y ∷ ys) r a (inl e) = subst (λ w. Before (stamp x) (stamp w)) e r.0
first_is_before stamp x (y ∷ ys) r a (inr i) = before_trans (stamp x) (stamp y) (stamp a) r.0 (first_is_before stamp y ys r.1 a i)

pub rest_is_rising : {X : Type 0} (stamp : X → List ℤ) (x : X) (xs : List X) → Rising stamp (x ∷ xs) → Rising stamp xs
rest_is_rising stamp x [] r = tt
rest_is_rising stamp x (y ∷ ys) r = r.1

pub rising_is_distinct : {X : Type 0} (stamp : X → List ℤ) (L : List X) → Rising stamp L → Distinct L
rising_is_distinct stamp [] r = tt
rising_is_distinct stamp (x ∷ xs) r =
    ((λ i. before_irreflexive (stamp x) (first_is_before stamp x xs r x i)), rising_is_distinct stamp xs (rest_is_rising stamp x xs r))

pub precedes_is_before : {X : Type 0} (stamp : X → List ℤ) (L : List X) → Rising stamp L → (a b : X) → Precedes L a b → Before (stamp a) (stamp b)
precedes_is_before stamp [] r a b h = absurd h
precedes_is_before stamp (x ∷ xs) r a b (inl h) = subst (λ w. Before (stamp w) (stamp b)) h.0 (first_is_before stamp x xs r b h.1)
precedes_is_before stamp (x ∷ xs) r a b (inr h) = precedes_is_before stamp xs (rest_is_rising stamp x xs r) a b h

-- two members are one, or one stands before the other
pub two_members : {X : Type 0} (L : List X) (a b : X) → In a L → In b L → (a ≡ b) ⊎ (Precedes L a b ⊎ Precedes L b a)
two_members [] a b i j = absurd i
two_members (x ∷ xs) a b (inl e) (inl f) = inl (sym e ∙ f)
two_members (x ∷ xs) a b (inl e) (inr j) = inr (inl (inl (e, j)))
two_members (x ∷ xs) a b (inr i) (inl f) = inr (inr (inl (f, i)))
two_members (x ∷ xs) a b (inr i) (inr j) = elim (two_members xs a b i j) as (λ _. (a ≡ b) ⊎ (Precedes (x ∷ xs) a b ⊎ Precedes (x ∷ xs) b a)) [
  | inl e ↦ inl e
  | inr (inl p) ↦ inr (inl (inr p))
  | inr (inr p) ↦ inr (inr (inr p))
]

-- what stands in both lists, behind a first member that is one and that does not come again
member_of_rest : {X : Type 0} (x y a : X) (xs ys : List X) → x ≡ y → ¬ In x xs → In a xs → In a (y ∷ ys) → In a ys
member_of_rest x y a xs ys e once i (inl f) = absurd (once (subst (λ w. In w xs) (sym (e ∙ f)) i))
member_of_rest x y a xs ys e once i (inr j) = j

same_first : {X : Type 0} (stamp : X → List ℤ) (x y : X) (xs ys : List X) → Rising stamp (x ∷ xs) → Rising stamp (y ∷ ys) → In x (y ∷ ys) → In y (x ∷ xs) → x ≡ y
same_first stamp x y xs ys r s (inl e) j = sym e
same_first stamp x y xs ys r s (inr i) (inl e) = e
same_first stamp x y xs ys r s (inr i) (inr j) =
    absurd (before_irreflexive (stamp x) (before_trans (stamp x) (stamp y) (stamp x) (first_is_before stamp x xs r y j) (first_is_before stamp y ys s x i)))

-- two rising lists with the same members are one list
pub same_list : {X : Type 0} (stamp : X → List ℤ) (L M : List X) → Rising stamp L → Rising stamp M → ((a : X) → In a L → In a M) → ((a : X) → In a M → In a L) → L ≡ M
same_list stamp [] [] r s f g = refl
same_list stamp [] (y ∷ ys) r s f g = absurd (g y (inl refl))
same_list stamp (x ∷ xs) [] r s f g = absurd (f x (inl refl))
same_list stamp (x ∷ xs) (y ∷ ys) r s f g =
    let e : x ≡ y = same_first stamp x y xs ys r s (f x (inl refl)) (g y (inl refl)) in
    let once = (rising_is_distinct stamp (x ∷ xs) r).0 in
    let once' = (rising_is_distinct stamp (y ∷ ys) s).0 in
    let rest : xs ≡ ys = same_list stamp xs ys (rest_is_rising stamp x xs r) (rest_is_rising stamp y ys s)
    (λ a i. member_of_rest x y a xs ys e once i (f a (inr i)))
    (λ a i. member_of_rest y x a ys xs (sym e) once' i (g a (inr i))) in
    ap (λ w. w ∷ xs) e ∙ ap (λ ws. y ∷ ws) rest

-- a run is unique
pub one_run : {X : Type 0} (Domain : X → Type 0) (stamp : X → List ℤ) (L M : List X) → RunOf X Domain stamp L → RunOf X Domain stamp M → L ≡ M
one_run Domain stamp L M l m = same_list stamp L M l.rising m.rising (λ a i. m.all a (l.only a i)) (λ a i. l.all a (m.only a i))
