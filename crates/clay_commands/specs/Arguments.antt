-- The arguments of a command, which are coefficients, as the numbers that they stand for.
use Rattle.std.specs.Prelude.{ℤ, pos, negsuc, ℕ, ◌-◌, ◌^◌, nat_lt, ◌&&◌, Bool, true, false, if◌then◌else◌, List, [], ◌∷◌, map}
use Rattle.clay_script.specs.declared.commands.Command.{Command}
use Rattle.clay_script.specs.Commands.{prefix_of}

-- a natural number; a negative one reads as 0
abbrev pub natural : ℤ → ℕ
natural (pos n) = n
natural (negsuc n) = 0

-- no number is negative
abbrev pub are_natural : List ℤ → Bool
are_natural [] = true
are_natural (pos n ∷ zs) = are_natural zs
are_natural (negsuc n ∷ zs) = false

-- the beta prefix of a command, where no number of it is negative
abbrev pub prefix_in : Command → List ℕ
prefix_in command = map natural (prefix_of command)

-- an order of children; one with a negative number is no permutation, nor is the empty one where there are children
abbrev pub order_in : List ℤ → List ℕ
order_in order = if are_natural order then map natural order else []

-- the place, from 0, of level k, which is counted from 1
abbrev pub place : ℤ → ℕ
place k = natural k - 1

-- a number fits 32 bits, as betas do
abbrev pub fits : ℤ → Bool
fits (pos n) = nat_lt n (2 ^ 32)
fits (negsuc n) = false

-- all numbers do
abbrev pub all_fit : List ℤ → Bool
all_fit [] = true
all_fit (z ∷ zs) = fits z && all_fit zs
