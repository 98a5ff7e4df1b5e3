-- Digits that stand for an integer out of range.
use Rattle.std.proofs.Common.{◌≡◌, ℕ, ◌+◌, ◌-◌, ◌*◌, ◌^◌, ◌≤◌, ◌<◌, Bool, true, false, cond, Some, None, List, [], ◌∷◌, length, drop, sym, ap, refl, arith, length-drop}
use Rattle.std.proofs.lemmas.Bool.{ltb-true}
use Rattle.std.specs.Prelude.{pos, nat_lt}
use Rattle.c_lexer.specs.Symbols.{value_from}
use Rattle.clan_rows.specs.Fitting.{in_range}

grows : (value : ℕ) (digits : List ℕ) → value ≤ value_from value digits
grows value [] = omega arith
grows value (b ∷ digits) = let g = grows (10 * value + (b - 48)) digits in omega (arith, g)

one_more : (value : ℕ) (digits : List ℕ) → 1 ≤ length digits → 10 * value ≤ value_from value digits
one_more value [] h = absurd (omega arith)
one_more value (b ∷ digits) h = let g = grows (10 * value + (b - 48)) digits in omega (arith, g)

out_by : (n : ℕ) (b : Bool) → nat_lt n (2 ^ 127) ≡ b → 2 ^ 127 ≤ n → in_range (pos n) ≡ None
out_by n true e h = let small = ltb-true n (2 ^ 127) e in absurd (omega (arith, small, h))
out_by n false e h = ap (λ t. cond t (Some (pos n)) None) e

-- with a digit left, a number above a tenth of the limit is out of range
pub soon_out : (value at : ℕ) (digits : List ℕ) → at < length digits → 17014118346046923173168730371588410572 < value
    → value_from value (drop at digits) ≡ value_from 0 digits → None ≡ in_range (pos (value_from 0 digits))
soon_out value at digits h large e =
    let g = one_more value (drop at digits) (omega (arith, length-drop at digits)) in
    sym (out_by (value_from 0 digits) (nat_lt (value_from 0 digits) (2 ^ 127)) refl (omega (arith, g, e)))
