-- More digits make no lesser number.
use Rattle.std.proofs.Common.{◌≡◌, ℕ, ◌+◌, ◌-◌, ◌*◌, ◌≤◌, ◌<◌, true, List, [], ◌∷◌, length, drop, sym, arith, length-drop}
use Rattle.std.proofs.lemmas.Bool.{lt-ltb}
use Rattle.c_lexer.specs.Symbols.{value_from, is_too_large}

grows : (value : ℕ) (digits : List ℕ) → value ≤ value_from value digits
grows value [] = omega arith
grows value (b ∷ digits) = let g = grows (10 * value + (b - 48)) digits in omega (arith, g)

one_more : (value : ℕ) (digits : List ℕ) → 1 ≤ length digits → 10 * value ≤ value_from value digits
one_more value [] h = absurd (omega arith)
one_more value (b ∷ digits) h = let g = grows (10 * value + (b - 48)) digits in omega (arith, g)

-- with a digit left, a number above a tenth of the limit is too large
pub soon_large : (value at : ℕ) (digits : List ℕ) → at < length digits → 17014118346046923173168730371588410572 < value
    → value_from value (drop at digits) ≡ value_from 0 digits → true ≡ is_too_large digits
soon_large value at digits h large e =
    let g = one_more value (drop at digits) (omega (arith, length-drop at digits)) in
    sym (lt-ltb _ _ (omega (arith, g, e)))
