-- The heart of Fourier-Motzkin elimination, one column at a time: along that column every row is a
-- line, its value changing by its slope. If the lines without slope are nonnegative, and each rising
-- line agrees with each falling one, then one place suits all.
use Rattle.std.proofs.Common.{◌≡◌, ap, inl, inr, ℕ, ◌+◌, ◌≤◌, List, [], ◌∷◌, arith}
use Rattle.std.specs.Prelude.{◌⊎◌, ℤ, pos, ◌+ℤ◌, ◌*ℤ◌, neg_ℤ, ◌≤ℤ◌, ◌<ℤ◌, unsigned_abs}
use Rattle.std.proofs.lemmas.Int.{ints, by_lt_z}
use Rattle.row_core.proofs.Ring.{mul_comm_z, neg_mul_z, mul_neg_z, mul_nonneg_z, mul_le_z, fraction_trans, mul_one_z}

pub record Line : Type 0 where
  pub slope : ℤ
  pub value : ℤ

abbrev pub AllLines : (Line → Type 0) → List Line → Type 0
AllLines P [] = Unit {0}
AllLines P (x ∷ xs) = P x × AllLines P xs

-- a rising and a falling line leave each other a place
pub record Agrees (p n : Line) : Type 0 where
  pub holds : pos 0 <ℤ p.slope → n.slope <ℤ pos 0 → pos 0 ≤ℤ ((neg_ℤ n.slope *ℤ p.value) +ℤ (p.slope *ℤ n.value))

pub record Flat (x : Line) : Type 0 where
  pub holds : x.slope ≡ pos 0 → pos 0 ≤ℤ x.value

-- m is as tight as the rising line x
pub record Tighter (m x : Line) : Type 0 where
  pub holds : pos 0 <ℤ x.slope → (m.value *ℤ x.slope) ≤ℤ (x.value *ℤ m.slope)

pub record Falls (x : Line) : Type 0 where
  pub holds : x.slope ≤ℤ pos 0

-- of the lines with P, a tightest rising one, or none rises
pub record Tightest (P : Line → Type 0) (xs : List Line) : Type 0 where
  pub line : Line
  pub rises : pos 0 <ℤ line.slope
  pub has : P line
  pub tight : AllLines (Tighter line) xs

none_tighter : (m : Line) (xs : List Line) → AllLines Falls xs → AllLines (Tighter m) xs
none_tighter m [] f = tt
none_tighter m (x ∷ xs) f = (record { holds = λ r. let h = f.0.holds in absurd (omega (arith, ints)) }, none_tighter m xs f.1)

tighter_trans : (x m : Line) (xs : List Line) → pos 0 <ℤ x.slope → pos 0 <ℤ m.slope → (x.value *ℤ m.slope) ≤ℤ (m.value *ℤ x.slope) → AllLines (Tighter m) xs → AllLines (Tighter x) xs
tighter_trans x m [] px pm l t = tt
tighter_trans x m (y ∷ ys) px pm l t = (record { holds = λ r. fraction_trans x.value m.value y.value x.slope m.slope y.slope px pm r l (t.0.holds r) }, tighter_trans x m ys px pm l t.1)

pub tightest : (P : Line → Type 0) (xs : List Line) → AllLines P xs → Tightest P xs ⊎ AllLines Falls xs
tightest P [] p = inr tt
tightest P (x ∷ xs) p = by_lt_z (pos 0) x.slope
    (λ r. elim (tightest P xs p.1) [
      | inl t ↦ by_lt_z (x.value *ℤ t.line.slope) (t.line.value *ℤ x.slope)
          (λ l. let k : (x.value *ℤ t.line.slope) ≤ℤ (t.line.value *ℤ x.slope) = omega (arith, ints) in
          inl (record { line = x; rises = r; has = p.0; tight = (record { holds = λ s. omega (arith, ints) }, tighter_trans x t.line xs r t.rises k t.tight) }))
          (λ l. inl (record { line = t.line; rises = t.rises; has = t.has; tight = (record { holds = λ s. l }, t.tight) }))
      | inr f ↦ inl (record { line = x; rises = r; has = p.0; tight = (record { holds = λ s. omega (arith, ints) }, none_tighter x xs f) })
    ])
    (λ f. elim (tightest P xs p.1) [
      | inl t ↦ inl (record { line = t.line; rises = t.rises; has = t.has; tight = (record { holds = λ s. absurd (omega (arith, ints)) }, t.tight) })
      | inr g ↦ inr (record { holds = f }, g)
    ])

-- at times the old place and shift along the column, the line is nonnegative
pub record Suits (times shift : ℤ) (x : Line) : Type 0 where
  pub holds : pos 0 ≤ℤ ((times *ℤ x.value) +ℤ (shift *ℤ x.slope))

-- a place that suits all lines
pub record Place (xs : List Line) : Type 0 where
  pub times : ℤ
  pub shift : ℤ
  pub positive : pos 0 <ℤ times
  pub suits : AllLines (Suits times shift) xs

-- the tightest rising line is put to 0
suits_at : (m x : Line) → pos 0 <ℤ m.slope → Flat x → Tighter m x → Agrees m x → Suits m.slope (neg_ℤ m.value) x
suits_at m x r f t a = by_lt_z (pos 0) x.slope
    (λ l. record { holds = let h = t.holds l in omega (arith, ints, neg_mul_z m.value x.slope, mul_comm_z m.slope x.value) })
    (λ l. by_lt_z x.slope (pos 0)
    (λ g. record { holds = let h = a.holds r g in omega (arith, ints, neg_mul_z x.slope m.value, neg_mul_z m.value x.slope, mul_comm_z x.slope m.value) })
    (λ g. let z : x.slope ≡ pos 0 = omega (arith, ints) in let v = f.holds z in let n : pos 0 ≤ℤ m.slope = omega (arith, ints) in
    record { holds = let h = mul_nonneg_z m.slope x.value n v in omega (arith, ints, ap (λ s. neg_ℤ m.value *ℤ s) z) }))

all_suit : (m : Line) (xs : List Line) → pos 0 <ℤ m.slope → AllLines Flat xs → AllLines (Tighter m) xs → AllLines (Agrees m) xs → AllLines (Suits m.slope (neg_ℤ m.value)) xs
all_suit m [] r f t a = tt
all_suit m (x ∷ xs) r f t a = (suits_at m x r f.0 t.0 a.0, all_suit m xs r f.1 t.1 a.1)

-- where no line rises, a place far down suits all
abbrev pub depth : List Line → ℕ
depth [] = 0
depth (x ∷ xs) = unsigned_abs x.value + depth xs

suits_below : (x : Line) (d : ℕ) → unsigned_abs x.value ≤ d → Falls x → Flat x → Suits (pos 1) (neg_ℤ (pos d)) x
suits_below x d l f g = by_lt_z x.slope (pos 0)
    (λ h. let n : pos 0 ≤ℤ pos d = omega (arith, ints) in
    let s : pos 1 ≤ℤ neg_ℤ x.slope = omega (arith, ints) in
    record { holds = let e = mul_le_z (pos d) (pos 1) (neg_ℤ x.slope) n s in omega (arith, ints, mul_one_z (pos d), mul_neg_z (pos d) x.slope, neg_mul_z (pos d) x.slope, mul_comm_z (pos 1) x.value, mul_one_z x.value) })
    (λ h. let e = f.holds in let z : x.slope ≡ pos 0 = omega (arith, ints) in let v = g.holds z in
    record { holds = omega (arith, ints, ap (λ s. neg_ℤ (pos d) *ℤ s) z, mul_comm_z (pos 1) x.value, mul_one_z x.value) })

all_below : (xs : List Line) (d : ℕ) → depth xs ≤ d → AllLines Falls xs → AllLines Flat xs → AllLines (Suits (pos 1) (neg_ℤ (pos d))) xs
all_below [] d l f g = tt
all_below (x ∷ xs) d l f g = (suits_below x d (omega arith) f.0 g.0, all_below xs d (omega arith) f.1 g.1)

pub choose : (xs : List Line) → AllLines Flat xs → AllLines (λ p. AllLines (Agrees p) xs) xs → Place xs
choose xs f a = elim (tightest (λ p. AllLines (Agrees p) xs) xs a) [
  | inl t ↦ record { times = t.line.slope; shift = neg_ℤ t.line.value; positive = t.rises; suits = all_suit t.line xs t.rises f t.tight t.has }
  | inr g ↦ record { times = pos 1; shift = neg_ℤ (pos (depth xs)); positive = omega (arith, ints); suits = all_below xs (depth xs) (omega arith) g f }
]
