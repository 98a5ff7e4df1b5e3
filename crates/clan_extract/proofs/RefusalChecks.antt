-- Refusals of regions, as they are worked out by hand. Most is the greatest coefficient.
use Rattle.std.proofs.Common.{◌≡◌, refl, [], ◌∷◌, ℕ, zero, suc, ◌-◌, ◌^◌, pos, Some, None}
use Rattle.std.specs.Prelude.{Option, true, false}
use Rattle.suite_base.specs.declared.refusals.Refusal.{Refusal}
use Rattle.suite_base.specs.declared.refusals.Refusal.TheVariants.{Limit, TooManyParts, Overflow}
use Rattle.suite_base.specs.declared.refusals.Which.TheVariants.{Rows, Locals}
use Rattle.suite_base.specs.declared.refusals.Where.TheVariants.{Statement as OfStatement}
use Rattle.clan_extract.specs.Regions.{Expression, Number, Name, Sum, Difference, Product, Negation, Ceiling, Remainder, IsLess, IsEqual, Condition, Compare, Both, Nodes, NoNodes, Then, If, Block}
use Rattle.clan_extract.specs.Counts.{condition_count}
use Rattle.clan_extract.specs.Refusals.{refusal_of}
use Rattle.clan_extract.proofs.ScopChecks.{i, N, A, B, set, one, loop, many}

abbrev most : Expression
most = Number (2 ^ 127 - 1)

abbrev refusal : Nodes → Option Refusal
refusal region = refusal_of (N ∷ []) (A ∷ (B ∷ [])) region

-- for (i = 0; i < N; i++) A[most * i - most * i]: only results count
cancelled : refusal (loop i (Number 0) IsLess (Name N) (pos 1) (set A (Difference (Product most (Name i)) (Product most (Name i))))) ≡ None
cancelled = refl

-- A[most], A[most + 1] and A[-most - 1]
greatest : refusal (set A most) ≡ None
greatest = refl

above_greatest : refusal (set A (Sum most (Number 1))) ≡ Some (Overflow OfStatement 1)
above_greatest = refl

below_least : refusal (Then (Block (set A (Number 0))) (set A (Difference (Negation most) (Number 1)))) ≡ Some (Overflow OfStatement 2)
below_least = refl

-- the sums on the way to a row don't count: N - most < 1 and i < ceild(most, 2)
row_alone_counts : refusal (one (If (Compare IsLess (Difference (Name N) most) (Number 1)) (set A (Number 0)) NoNodes)) ≡ None
row_alone_counts = refl

ceiling_of_most : refusal (loop i (Number 0) IsLess (Ceiling most 2) (pos 1) (set A (Name i))) ≡ None
ceiling_of_most = refl

-- its row is -N - most - 1 >= 0 under the condition, N + most >= 0 behind else
row_of_one_branch : refusal (one (If (Compare IsLess (Sum (Name N) most) (Number 0)) (set A (Number 0)) (set A (Number 0)))) ≡ Some (Overflow OfStatement 1)
row_of_one_branch = refl

row_of_other_branch : refusal (one (If (Compare IsLess (Sum (Name N) most) (Number 0)) NoNodes (set A (Number 0)))) ≡ None
row_of_other_branch = refl

-- the form counts for both branches: N + most + 1 stands in the condition
form_of_both_branches : refusal (one (If (Compare IsLess (Difference (Sum (Sum (Name N) most) (Number 1)) (Number 1)) (Number 0)) NoNodes (set A (Number 0)))) ≡ Some (Overflow OfStatement 1)
form_of_both_branches = refl

-- what stands round no assignment overflows nothing
round_nothing : refusal (Then (If (Compare IsLess (Sum most (Number 1)) (Number 0)) NoNodes NoNodes) (set A (Number 0))) ≡ None
round_nothing = refl

-- six != make 64 parts, seven 128
parts_of_six : refusal (one (If (many 5) (set A (Number 0)) NoNodes)) ≡ None
parts_of_six = refl

parts_of_seven : refusal (one (If (many 6) (set A (Number 0)) NoNodes)) ≡ Some (TooManyParts 1)
parts_of_seven = refl

-- 24 and 25 remainders, each with a local
abbrev remainders : ℕ → Condition
remainders zero = Compare IsEqual (Remainder (Name N) 2) (Number 0)
remainders (suc k) = Both (Compare IsEqual (Remainder (Name N) 2) (Number 0)) (remainders k)

locals_kept : refusal (one (If (remainders 23) (set A (Number 0)) NoNodes)) ≡ None
locals_kept = refl

locals_passed : refusal (one (If (remainders 24) (set A (Number 0)) NoNodes)) ≡ Some (Limit Locals 1)
locals_passed = refl

-- 256 and 257 rows
abbrev rows : ℕ → Condition
rows zero = Compare IsEqual (Name N) (Number 0)
rows (suc k) = Both (Compare IsEqual (Name N) (Number 0)) (rows k)

rows_kept : refusal (one (If (rows 255) (set A (Number 0)) NoNodes)) ≡ None
rows_kept = refl

rows_passed : refusal (one (If (rows 256) (set A (Number 0)) NoNodes)) ≡ Some (Limit Rows 1)
rows_passed = refl

-- 400 conditions of two parts, which nobody makes
counted : condition_count true (many 399) ≡ record { parts = 2 ^ 400; rows = 400; locals = 0 }
counted = refl

-- behind else they are 400 parts of one row
counted_behind_else : condition_count false (many 399) ≡ record { parts = 400; rows = 1; locals = 0 }
counted_behind_else = refl
