-- What tests of integers answer.
use Rattle.std.proofs.Common.{◌≡◌, ℤ, Bool, true, false, int_lt, refl, arith}
use Rattle.std.specs.Prelude.{◌<ℤ◌}
use Rattle.std.specs.Ordering.{int_eq}
use Rattle.std.proofs.lemmas.Int.{ints}
use Rattle.std.proofs.lemmas.Bool.Decides.{Decides-int_eq}

pub lt_of : (x y : ℤ) → x <ℤ y → int_lt x y ≡ true
lt_of x y h = by (int_lt x y) refl
  where
    by : (t : Bool) → int_lt x y ≡ t → int_lt x y ≡ true
    by true e = e
    by false e = absurd (omega (arith, ints))

pub lt_no : (x y : ℤ) → ¬ (x <ℤ y) → int_lt x y ≡ false
lt_no x y h = by (int_lt x y) refl
  where
    by : (t : Bool) → int_lt x y ≡ t → int_lt x y ≡ false
    by true e = absurd (h (omega (arith, ints)))
    by false e = e

pub eq_no : (x y : ℤ) → ¬ (x ≡ y) → int_eq x y ≡ false
eq_no x y d = by (int_eq x y) refl
  where
    by : (t : Bool) → int_eq x y ≡ t → int_eq x y ≡ false
    by true e = absurd (d ((Decides-int_eq x y).0 e))
    by false e = e
