-- Loops that are longer than what neighbours have in common are neither split nor joined.
use Rattle.std.proofs.Common.{◌≡◌, ℕ, zero, suc, ◌+◌, ◌<◌, ◌≤◌, min, max, inl, inr, List, [], ◌∷◌, ◌++◌, refl, sym, ◌∙◌, ap, subst, arith, append-nil}
use Rattle.std.specs.List.{flat_map, range_with_len}
use Rattle.std.proofs.lemmas.Bool.{lt-leb, cases_lt}
use Rattle.beta_trails.specs.Trails.{agreement}
use Rattle.clay_script.specs.declared.commands.Command.{Command}
use Rattle.chlore_recover.specs.Passes.{as_fissions, next_child, parted_loops, all_parted}
use Rattle.chlore_recover.specs.Strategy.{fuses_of_length}
use Rattle.schedule_recovery.specs.Agreements.{most_from}

-- neighbours agree in at most so many entries
abbrev AgreeIn : ℕ → List ℕ → List (List ℕ) → Type 0
AgreeIn n v [] = Unit {0}
AgreeIn n v (w ∷ W) = (agreement v w ≤ n) × AgreeIn n w W

most_least : (n : ℕ) (v : List ℕ) (W : List (List ℕ)) → n ≤ most_from n v W
most_least n v [] = omega arith
most_least n v (w ∷ W) = let more = most_least (max (agreement v w) n) w W in omega (arith, more)

agree_in : (n : ℕ) (v : List ℕ) (W : List (List ℕ)) → AgreeIn (most_from n v W) v W
agree_in n v [] = tt
agree_in n v (w ∷ W) = let more = most_least (max (agreement v w) n) w W in (omega (arith, more), agree_in (max (agreement v w) n) w W)

parted_none : (m n child : ℕ) (v : List ℕ) (W : List (List ℕ)) → AgreeIn m v W → m < n → parted_loops n child v W ≡ []
parted_none m n child v [] a l = refl
parted_none m n child v (w ∷ W) (b, a) l = rw (lt-leb n (agreement v w) (omega (arith, b, l))) (parted_none m n (next_child n child (agreement v w)) w W a l)

parted_less : (m n : ℕ) (v : List ℕ) (W : List (List ℕ)) → AgreeIn m v W → m ≤ n → all_parted n v W ≡ all_parted m v W
parted_less m zero v W a l = let none : 0 ≡ m = omega (arith, l) in ap (λ k. all_parted k v W) none
parted_less m (suc n) v W a l =
    elim (cases_lt n m) [
      | inl g ↦ let same : suc n ≡ m = omega (arith, l, g) in ap (λ k. all_parted k v W) same
      | inr g ↦ ap (λ z. z ++ all_parted n v W) (parted_none m (suc n) 0 v W a (omega (arith, g))) ∙ parted_less m n v W a g
    ]

parted_cut : (d m : ℕ) (v : List ℕ) (W : List (List ℕ)) → AgreeIn m v W → all_parted (min m d) v W ≡ all_parted d v W
parted_cut d m v W a =
    elim (cases_lt d m) [
      | inl g ↦ let same : min m d ≡ d = omega (arith, g) in ap (λ k. all_parted k v W) same
      | inr g ↦ let same : min m d ≡ m = omega (arith, g) in ap (λ k. all_parted k v W) same ∙ sym (parted_less m d v W a g)
    ]

pub parts_start : (d m size : ℕ) (v : List ℕ) (W : List (List ℕ)) (old : List Command) → m ≡ most_from 0 v W → size ≡ min m d → old ++ as_fissions (all_parted size v W) ≡ old ++ as_fissions (all_parted d v W)
parts_start d m size v W old e f =
    ap (λ z. old ++ as_fissions z) (ap (λ k. all_parted k v W) f ∙ parted_cut d m v W (subst (λ k. AgreeIn k v W) (sym e) (agree_in 0 v W)))

fuses_none : (m n : ℕ) (v : List ℕ) (W : List (List ℕ)) → AgreeIn m v W → m < n → fuses_of_length n v W ≡ []
fuses_none m n v [] a l = refl
fuses_none m n v (w ∷ W) (b, a) l = rw (lt-leb n (agreement v w) (omega (arith, b, l))) (fuses_none m n w W a l)

all_none : (m s c : ℕ) (v : List ℕ) (W : List (List ℕ)) → AgreeIn m v W → m < s → flat_map (λ n. fuses_of_length n v W) (range_with_len s c) ≡ []
all_none m s zero v W a l = refl
all_none m s (suc c) v W a l =
    ap (λ z. z ++ flat_map (λ n. fuses_of_length n v W) (range_with_len (s + 1) c)) (fuses_none m s v W a l) ∙ all_none m (s + 1) c v W a (omega (arith, l))

pub joins_end : (m k c : ℕ) (v : List ℕ) (W : List (List ℕ)) (script all : List Command) → m ≡ most_from 0 v W → m ≤ k
    → script ++ flat_map (λ n. fuses_of_length n v W) (range_with_len (k + 1) c) ≡ all → script ≡ all
joins_end m k c v W script all e l h =
    sym (append-nil script) ∙ (ap (λ z. script ++ z) (sym (all_none m (k + 1) c v W (subst (λ n. AgreeIn n v W) (sym e) (agree_in 0 v W)) (omega (arith, l)))) ∙ h)
