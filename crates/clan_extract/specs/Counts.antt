-- How many parts a domain has, and how many rows and locals its largest parts have, counted without making the parts.
use Rattle.std.specs.Prelude.{ℕ, ◌+◌, ◌*◌, max, ◌≡◌, List, [], ◌∷◌, length, unsigned_abs, Bool, true, false, cond, not, nat_eq, nat_lt}
use Rattle.relation_core.specs.Systems.{System}
use Rattle.scop_core.specs.declared.limits.PartCount.TheVariants.{LocalCount, RowCount}
use Rattle.scop_core.specs.Assembly.{some_above}
use Rattle.clan_extract.specs.Regions.{Expression, Maximum, Minimum, Remainder, Comparison, IsLess, IsLessOrEqual, IsGreater, IsGreaterOrEqual, IsEqual, IsUnequal, Condition, Compare, Both, Either, Opposite}
use Rattle.clan_extract.specs.Placements.{Head, Round, Loop, Test, Placed}
use Rattle.clan_extract.specs.Constraints.{opposite_comparison}
use Rattle.clan_extract.specs.Scops.{statement}

-- the number of parts, the most rows and the most locals of a part
pub record Count : Type 0 where
  pub parts : ℕ
  pub rows : ℕ
  pub locals : ℕ

abbrev pub one_part : ℕ → ℕ → Count
one_part rows locals = record { parts = 1; rows = rows; locals = locals }

-- of the parts of the one and of the other
abbrev pub in_turn : Count → Count → Count
in_turn a b = record { parts = a.parts + b.parts; rows = max a.rows b.rows; locals = max a.locals b.locals }

-- of every part of the one with every part of the other
abbrev pub crossed : Count → Count → Count
crossed a b = record { parts = a.parts * b.parts; rows = a.rows + b.rows; locals = a.locals + b.locals }

-- the rows of a lower bound, and of an upper one
abbrev pub lower_count : Expression → ℕ
lower_count (Maximum left right) = lower_count left + lower_count right
lower_count e = 1

abbrev pub upper_count : Expression → ℕ
upper_count (Minimum left right) = upper_count left + upper_count right
upper_count e = 1

-- the rows of the start and bound of a loop
abbrev pub bounds_count : Head → Comparison → ℕ
bounds_count h IsLess = lower_count h.start + upper_count h.bound
bounds_count h IsLessOrEqual = lower_count h.start + upper_count h.bound
bounds_count h IsGreater = upper_count h.start + lower_count h.bound
bounds_count h IsGreaterOrEqual = upper_count h.start + lower_count h.bound
bounds_count h IsEqual = 0
bounds_count h IsUnequal = 0

-- a loop is one part; a step of at least 2 has a row and a local
abbrev pub loop_count : Head → Count
loop_count h = let strides = cond (nat_eq (unsigned_abs h.step) 1) 0 1 in one_part (bounds_count h h.comparison + strides) strides

-- a comparison of affine values, and of a remainder with 0
abbrev pub affine_count : Comparison → Count
affine_count IsUnequal = record { parts = 2; rows = 1; locals = 0 }
affine_count comparison = one_part 1 0

abbrev pub remainder_count : Comparison → Count
remainder_count IsUnequal = one_part 2 1
remainder_count comparison = one_part 1 1

abbrev pub sides_count : Comparison → Expression → Count
sides_count comparison (Remainder of divisor) = remainder_count comparison
sides_count comparison left = affine_count comparison

-- the parts in which the condition has this truth
abbrev pub condition_count : Bool → Condition → Count
condition_count truth (Compare comparison left right) = sides_count (cond truth comparison (opposite_comparison comparison)) left
condition_count truth (Both left right) =
    cond truth (crossed (condition_count true left) (condition_count true right)) (in_turn (condition_count false left) (condition_count false right))
condition_count truth (Either left right) =
    cond truth (in_turn (condition_count true left) (condition_count true right)) (crossed (condition_count false left) (condition_count false right))
condition_count truth (Opposite of) = condition_count (not truth) of

-- the parts of what stands round an assignment
abbrev pub rounds_count : List Round → Count
rounds_count [] = one_part 0 0
rounds_count (Loop head ∷ rounds) = crossed (loop_count head) (rounds_count rounds)
rounds_count (Test truth condition ∷ rounds) = crossed (condition_count truth condition) (rounds_count rounds)

-- the domain of a statement has as many parts as are counted, and its largest parts as many rows and locals
pub record HasCounts (count : Count) (domain : List System) : Type 0 where
  pub parts : length domain ≡ count.parts
  pub rows : (most : ℕ) → some_above RowCount most domain ≡ nat_lt most count.rows
  pub locals : (most : ℕ) → some_above LocalCount most domain ≡ nat_lt most count.locals

abbrev pub PartsAreCounted : Type 0
PartsAreCounted = (parameters arrays : List (List ℕ)) (p : Placed) → HasCounts (rounds_count p.rounds) (statement parameters arrays p).domain
