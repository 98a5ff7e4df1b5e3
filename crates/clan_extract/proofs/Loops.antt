-- The values of a loop.
use Rattle.std.proofs.Common.{◌≡◌, ◌⊎◌, inl, inr, ℕ, zero, suc, ◌+◌, List, [], ◌∷◌, Bool, true, false, cond, refl, arith, ℤ, pos, ◌+ℤ◌, ◌-ℤ◌, ◌≤ℤ◌, ◌<ℤ◌}
use Rattle.std.specs.Prelude.{int_lt, int_le, unsigned_abs}
use Rattle.std.proofs.lemmas.Int.{ints}
use Rattle.scop_core.specs.Sequences.{In}
use Rattle.clan_extract.specs.Regions.{IsLess, IsLessOrEqual, IsGreater, IsGreaterOrEqual, IsEqual, IsUnequal}
use Rattle.clan_extract.specs.Execution.{values_while, AsLongAs, LoopsRunAsLongAs}

-- where Left k v says that at most k values are left from v on
as_long_as : (test : ℤ → Bool) (step : ℤ) (Left : ℕ → ℤ → Type 0)
    → ((v : ℤ) → Left 0 v → test v ≡ false)
    → ((k : ℕ) (v : ℤ) → Left (suc k) v → test v ≡ true → Left k (v +ℤ step))
    → (k : ℕ) (v : ℤ) → Left k v → AsLongAs test step v (values_while test step k v)
as_long_as test step Left ends goes zero v left = ends v left
as_long_as test step Left ends goes (suc k) v left = by (test v) refl (λ e. as_long_as test step Left ends goes k (v +ℤ step) (goes k v left e))
  where
    by : (b : Bool) → test v ≡ b → (test v ≡ true → AsLongAs test step (v +ℤ step) (values_while test step k (v +ℤ step)))
        → AsLongAs test step v (cond (test v) (v ∷ values_while test step k (v +ℤ step)) [])
    by true e rest = rw e (refl, e, rest e)
    by false e rest = rw e e

false_if : (t : Bool) → (t ≡ true → ⊥) → t ≡ false
false_if true h = absurd (h refl)
false_if false h = refl

pub loops_run : LoopsRunAsLongAs
loops_run IsLess step h start bound =
    as_long_as (λ v. int_lt v bound) step (λ k v. bound ≤ℤ (v +ℤ pos k)) (λ v l. false_if (int_lt v bound) (λ e. omega (arith, ints))) (λ k v l e. omega (arith, ints)) (unsigned_abs (bound -ℤ start) + 1) start (omega (arith, ints))
loops_run IsLessOrEqual step h start bound =
    as_long_as (λ v. int_le v bound) step (λ k v. bound <ℤ (v +ℤ pos k)) (λ v l. false_if (int_le v bound) (λ e. omega (arith, ints))) (λ k v l e. omega (arith, ints)) (unsigned_abs (bound -ℤ start) + 1) start (omega (arith, ints))
loops_run IsGreater step h start bound =
    as_long_as (λ v. int_lt bound v) step (λ k v. v ≤ℤ (bound +ℤ pos k)) (λ v l. false_if (int_lt bound v) (λ e. omega (arith, ints))) (λ k v l e. omega (arith, ints)) (unsigned_abs (bound -ℤ start) + 1) start (omega (arith, ints))
loops_run IsGreaterOrEqual step h start bound =
    as_long_as (λ v. int_le bound v) step (λ k v. v <ℤ (bound +ℤ pos k)) (λ v l. false_if (int_le bound v) (λ e. omega (arith, ints))) (λ k v l e. omega (arith, ints)) (unsigned_abs (bound -ℤ start) + 1) start (omega (arith, ints))
loops_run IsEqual step h start bound = absurd h
loops_run IsUnequal step h start bound = absurd h

-- the values of an upward loop are those from the start to below the bound
pub values_within : (bound v : ℤ) (xs : List ℤ) → AsLongAs (λ u. int_lt u bound) (pos 1) v xs → (w : ℤ) → In w xs → (v ≤ℤ w) × (w <ℤ bound)
values_within bound v [] h w i = absurd i
values_within bound v (x ∷ xs) h w (inl e) = let same = h.0 in let below = h.1 in (omega (arith, ints), omega (arith, ints))
values_within bound v (x ∷ xs) h w (inr i) = let rest = values_within bound (v +ℤ pos 1) xs h.2 w i in let low = rest.0 in (omega (arith, ints), rest.1)

pub values_all : (bound v : ℤ) (xs : List ℤ) → AsLongAs (λ u. int_lt u bound) (pos 1) v xs → (w : ℤ) → v ≤ℤ w → w <ℤ bound → In w xs
values_all bound v [] h w low high = absurd (omega (arith, ints))
values_all bound v (x ∷ xs) h w low high = by (int_lt v w) refl (λ l. values_all bound (v +ℤ pos 1) xs h.2 w l high)
  where
    by : (b : Bool) → int_lt v w ≡ b → ((v +ℤ pos 1) ≤ℤ w → In w xs) → (x ≡ w) ⊎ In w xs
    by true e rest = inr (rest (omega (arith, ints)))
    by false e rest = let same = h.0 in inl (omega (arith, ints))
