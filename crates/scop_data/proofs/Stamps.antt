-- Stamps of valid schedules are ordered.
use Rattle.std.proofs.Common.{◌≡◌, ◌≢◌, ◌⊎◌, inl, inr, ℕ, ◌+◌, List, [], ◌∷◌, length, ℤ, refl, sym, ◌∙◌, ap, subst, arith, Option, Some, None, Bool, true, false, ◌==◌}
use Rattle.std.proofs.lemmas.Bool.Decides.{Decides-eqb, not_from_Decides}
use Rattle.std.specs.Prelude.{IsSomeAnd}
use Rattle.std.proofs.lemmas.List.{length-map}
use Rattle.std.proofs.lemmas.Int.{ints, by_lt_z}
use Rattle.scop_data.specs.declared.schedules.Schedule.{Schedule}
use Rattle.scop_data.specs.declared.statements.Statement.{Statement}
use Rattle.scop_data.specs.ScopData.{ScopData}
use Rattle.scop_data.specs.Order.{Before, IsPrefix}
use Rattle.scop_data.specs.Meaning.{Instance, statement_at, InDomain, IsInstance, floors_after, levels_at, interleaved, stamp_in, stamp}
use Rattle.scop_data.specs.Theorems.{IsStatement, HasValidSchedules, StampsAreOrdered, StatementsAreOrdered}

-- two lists differ at a place that both have, or one is a beginning of the other
data Compared (p q : List ℤ) : Type 0 where
  Less : Before p q → Compared p q
  More : Before q p → Compared p q
  Left : IsPrefix p q → Compared p q
  Right : IsPrefix q p → Compared p q

compared : (p q : List ℤ) → Compared p q
compared [] q = Left tt
compared (x ∷ p) [] = Right tt
compared (x ∷ p) (y ∷ q) = by_lt_z x y (λ h. Less (inl h)) (λ h. by_lt_z y x (λ k. More (inl k)) (λ k. heads (omega (arith, ints)) (compared p q)))
  where
    heads : x ≡ y → Compared p q → Compared (x ∷ p) (y ∷ q)
    heads e (Less b) = Less (inr (e, b))
    heads e (More b) = More (inr (sym e, b))
    heads e (Left b) = Left (e, b)
    heads e (Right b) = Right (sym e, b)

-- a beginning that is as long is the whole
whole_prefix : (p q : List ℤ) → length p ≡ length q → IsPrefix p q → p ≡ q
whole_prefix [] [] e h = refl
whole_prefix [] (y ∷ q) e h = absurd (omega (arith, e))
whole_prefix (x ∷ p) [] e h = absurd h
whole_prefix (x ∷ p) (y ∷ q) e h = ap (λ z. z ∷ p) h.0 ∙ ap (λ t. y ∷ t) (whole_prefix p q (omega (arith, e)) h.1)

-- where one stamp is a beginning of another, so are the betas
betas_of_prefix : (bs vs cs ws : List ℤ) → length bs ≡ length vs + 1 → IsPrefix (interleaved bs vs) (interleaved cs ws) → IsPrefix bs cs
betas_of_prefix [] vs cs ws e h = tt
betas_of_prefix (b ∷ bs) [] [] ws e h = absurd h
betas_of_prefix (b ∷ []) [] (c ∷ cs) [] e h = (h.0, tt)
betas_of_prefix (b ∷ []) [] (c ∷ cs) (w ∷ ws) e h = (h.0, tt)
betas_of_prefix (b ∷ (a ∷ bs)) [] (c ∷ cs) ws e h = absurd (omega (arith, e))
betas_of_prefix (b ∷ bs) (v ∷ vs) [] ws e h = absurd h
betas_of_prefix (b ∷ bs) (v ∷ vs) (c ∷ cs) [] e h = absurd h.1
betas_of_prefix (b ∷ bs) (v ∷ vs) (c ∷ cs) (w ∷ ws) e h = (h.0, betas_of_prefix bs vs cs ws (omega (arith, e)) h.1.1)

interleaved_length : (bs vs cs ws : List ℤ) → length bs ≡ length cs → length vs ≡ length ws → length (interleaved bs vs) ≡ length (interleaved cs ws)
interleaved_length [] vs [] ws e f = refl
interleaved_length [] vs (c ∷ cs) ws e f = absurd (omega (arith, e))
interleaved_length (b ∷ bs) vs [] ws e f = absurd (omega (arith, e))
interleaved_length (b ∷ bs) [] (c ∷ cs) [] e f = refl
interleaved_length (b ∷ bs) [] (c ∷ cs) (w ∷ ws) e f = absurd (omega (arith, f))
interleaved_length (b ∷ bs) (v ∷ vs) (c ∷ cs) [] e f = absurd (omega (arith, f))
interleaved_length (b ∷ bs) (v ∷ vs) (c ∷ cs) (w ∷ ws) e f = omega (arith, interleaved_length bs vs cs ws (omega (arith, e)) (omega (arith, f)))

-- the statement of an instance
record Found (statements : List Statement) (k : ℕ) : Type 0 where
  statement : Statement
  is : IsStatement statements k statement

found_in : (o : Option Statement) (P : Statement → Type 0) → IsSomeAnd o P → (s : Statement) × (o ≡ Some s)
found_in None P h = absurd h
found_in (Some s) P h = (s, refl)

found : (S : ScopData) (n : List ℤ) (a : Instance) → IsInstance S n a → Found S.statements a.statement
found S n a h = let f = found_in (statement_at S.statements a.statement) (λ s. InDomain s a.values n) h in record { statement = f.0; is = f.1 }

levels_of : Schedule → List ℤ → List ℤ → List ℤ
levels_of schedule x n = levels_at schedule.levels x (floors_after [] schedule.floors x n) n

stamp_is : (S : ScopData) (n : List ℤ) (a : Instance) (s : Statement) → IsStatement S.statements a.statement s → stamp S n a ≡ interleaved s.schedule.betas (levels_of s.schedule a.values n)
unfolding levels_of
stamp_is S n a s e = ap (λ o. stamp_in o a.values n) e

levels_length : (schedule : Schedule) (x n : List ℤ) → length (levels_of schedule x n) ≡ length schedule.levels
unfolding levels_of
levels_length schedule x n = length-map schedule.levels _

one_beta_more : (S : ScopData) → HasValidSchedules S.statements → (k : ℕ) (s : Statement) → IsStatement S.statements k s → (x n : List ℤ) → length s.schedule.betas ≡ length (levels_of s.schedule x n) + 1
one_beta_more S v k s e x n = v.sizes k s e ∙ ap (λ m. m + 1) (sym (levels_length s.schedule x n))

-- where the statements differ, no stamp is a beginning of the other
no_prefix : (S : ScopData) → HasValidSchedules S.statements → (n : List ℤ) (a b : Instance) → Found S.statements a.statement → Found S.statements b.statement → a.statement ≢ b.statement → ¬ IsPrefix (stamp S n a) (stamp S n b)
no_prefix S v n a b f g d h =
    let s = f.statement in
    let t = g.statement in
    let p : IsPrefix (interleaved s.schedule.betas (levels_of s.schedule a.values n)) (interleaved t.schedule.betas (levels_of t.schedule b.values n)) =
    subst (λ w. IsPrefix (interleaved s.schedule.betas (levels_of s.schedule a.values n)) w) (stamp_is S n b t g.is) (subst (λ w. IsPrefix w (stamp S n b)) (stamp_is S n a s f.is) h) in
    v.apart a.statement b.statement s t f.is g.is d
    (betas_of_prefix s.schedule.betas (levels_of s.schedule a.values n) t.schedule.betas (levels_of t.schedule b.values n) (one_beta_more S v a.statement s f.is a.values n) p)

pub statements_ordered : StatementsAreOrdered
statements_ordered S v n a b ia ib d = by (compared (stamp S n a) (stamp S n b))
  where
    by : Compared (stamp S n a) (stamp S n b) → Before (stamp S n a) (stamp S n b) ⊎ Before (stamp S n b) (stamp S n a)
    by (Less h) = inl h
    by (More h) = inr h
    by (Left h) = absurd (no_prefix S v n a b (found S n a ia) (found S n b ib) d h)
    by (Right h) = absurd (no_prefix S v n b a (found S n b ib) (found S n a ia) (λ e. d (sym e)) h)

-- instances of one statement have stamps of one length
one_length : (S : ScopData) (n : List ℤ) (a b : Instance) → Found S.statements a.statement → a.statement ≡ b.statement → length (stamp S n a) ≡ length (stamp S n b)
one_length S n a b f e =
    let s = f.statement in
    let is_b : IsStatement S.statements b.statement s = subst (λ k. IsStatement S.statements k s) e f.is in
    ap length (stamp_is S n a s f.is)
    ∙ interleaved_length s.schedule.betas (levels_of s.schedule a.values n) s.schedule.betas (levels_of s.schedule b.values n) refl (levels_length s.schedule a.values n ∙ sym (levels_length s.schedule b.values n))
    ∙ ap length (sym (stamp_is S n b s is_b))

pub same_number : (j k : ℕ) → (j ≡ k) ⊎ (j ≢ k)
same_number j k = by (j == k) refl
  where
    by : (t : Bool) → (j == k) ≡ t → (j ≡ k) ⊎ (j ≢ k)
    by true e = inl ((Decides-eqb j k).0 e)
    by false e = inr (not_from_Decides (j == k) (Decides-eqb j k) e)

pub stamps_ordered : StampsAreOrdered
stamps_ordered S v n a b ia ib = by (same_number a.statement b.statement)
  where
    split : Before (stamp S n a) (stamp S n b) ⊎ Before (stamp S n b) (stamp S n a) → Before (stamp S n a) (stamp S n b) ⊎ (Before (stamp S n b) (stamp S n a) ⊎ (stamp S n a ≡ stamp S n b))
    split (inl h) = inl h
    split (inr h) = inr (inl h)

    long : length (stamp S n a) ≡ length (stamp S n b) → Compared (stamp S n a) (stamp S n b) → Before (stamp S n a) (stamp S n b) ⊎ (Before (stamp S n b) (stamp S n a) ⊎ (stamp S n a ≡ stamp S n b))
    long e (Less h) = inl h
    long e (More h) = inr (inl h)
    long e (Left h) = inr (inr (whole_prefix (stamp S n a) (stamp S n b) e h))
    long e (Right h) = inr (inr (sym (whole_prefix (stamp S n b) (stamp S n a) (sym e) h)))

    by : (a.statement ≡ b.statement) ⊎ (a.statement ≢ b.statement) → Before (stamp S n a) (stamp S n b) ⊎ (Before (stamp S n b) (stamp S n a) ⊎ (stamp S n a ≡ stamp S n b))
    by (inl e) = long (one_length S n a b (found S n a ia) e) (compared (stamp S n a) (stamp S n b))
    by (inr d) = split (statements_ordered S v n a b ia ib d)
