-- The greatest common divisor by Euclid's algorithm, of two numbers and of the entries of a row.
use Rattle.std.specs.Prelude.{ℕ, zero, suc, ◌+◌, ◌%◌, List, [], ◌∷◌, cond, nat_eq, map, ℤ, pos, int_div, unsigned_abs}

-- Euclid's algorithm with at most the given number of divisions
unfoldable pub gcd_within : ℕ → ℕ → ℕ → ℕ
gcd_within zero a b = a
gcd_within (suc steps) a b = cond (nat_eq b 0) a (gcd_within steps b (a % b))

-- the greatest common divisor; of 0 and 0 it is 0
unfoldable pub gcd : ℕ → ℕ → ℕ
gcd a b = gcd_within (b + 1) a b

-- the greatest common divisor of a number and of all entries of a row
abbrev pub gcd_onto : ℕ → List ℤ → ℕ
gcd_onto g [] = g
gcd_onto g (c ∷ cells) = gcd_onto (gcd g (unsigned_abs c)) cells

-- each entry divided by a number
abbrev pub divided_by : ℕ → List ℤ → List ℤ
divided_by g cells = map (λ c. int_div c (pos g)) cells

-- a row divided by the greatest common divisor of its entries; a row of zeros stays
abbrev pub divided : List ℤ → List ℤ
divided cells = cond (nat_eq (gcd_onto 0 cells) 0) cells (divided_by (gcd_onto 0 cells) cells)
