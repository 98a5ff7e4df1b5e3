use Rattle.std.proofs.Common.{◌≡◌, ℕ, ◌+◌, ◌-◌, ◌*◌, ◌≤◌, Bool, true, false, List, [], ◌∷◌, unsigned_abs, arith}
use Rattle.std.proofs.lemmas.Int.{ints}
use Rattle.suite_base.specs.Numbers.{digits_after, with_sign}

-- more digits never make a number smaller
pub le_digits_after : (n : ℕ) (ds : List ℕ) → n ≤ digits_after n ds
le_digits_after n [] = omega arith
le_digits_after n (d ∷ ds) = omega (arith, le_digits_after (n * 10 + (d - 48)) ds)

pub unsigned_abs-with_sign : (negative : Bool) (n : ℕ) → unsigned_abs (with_sign negative n) ≡ n
unsigned_abs-with_sign true n = omega (arith, ints)
unsigned_abs-with_sign false n = omega (arith, ints)
