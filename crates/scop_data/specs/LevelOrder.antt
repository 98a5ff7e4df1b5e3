-- The order of two stamps by levels: the loops that are around both statements, and the text's order where these loops end.
-- Beta vectors are lists of betas, the values of the levels another list. A statement with m loops has m + 1 betas: each but
-- the last one is the place of a loop, and the last one is the place of the statement itself.
use Rattle.std.specs.Prelude.{◌≡◌, ℕ, zero, suc, ◌<◌, List, [], ◌∷◌, ◌++◌, ℤ, ◌<ℤ◌, int_lt, Bool, true, false, if◌then◌else◌}
use Rattle.std.specs.List.{range_with_len}
use Rattle.std.specs.Ordering.{int_eq}
use Rattle.scop_data.specs.declared.schedules.Schedule.{Schedule}
use Rattle.scop_data.specs.Meaning.{floors_after, levels_at}

-- how many loops are around both of two statements with these beta vectors
abbrev pub common_loops : List ℤ → List ℤ → ℕ
common_loops [] q = 0
common_loops (b ∷ []) q = 0
common_loops (b ∷ (b' ∷ p)) [] = 0
common_loops (b ∷ (b' ∷ p)) (c ∷ []) = 0
common_loops (b ∷ (b' ∷ p)) (c ∷ (c' ∷ q)) = if int_eq b c then suc (common_loops (b' ∷ p) (c' ∷ q)) else 0

-- the first of two statements with these beta vectors stands before the second one in the text: the first beta that differs is less
abbrev pub is_textually_before : List ℤ → List ℤ → Bool
is_textually_before [] q = false
is_textually_before (b ∷ p) [] = false
is_textually_before (b ∷ p) (c ∷ q) = if int_eq b c then is_textually_before p q else int_lt b c

-- both lists have n entries, and their first n entries are equal
abbrev pub EqualUpTo : ℕ → List ℤ → List ℤ → Type 0
EqualUpTo zero v w = Unit {0}
EqualUpTo (suc n) [] w = ⊥
EqualUpTo (suc n) (x ∷ v) [] = ⊥
EqualUpTo (suc n) (x ∷ v) (y ∷ w) = (x ≡ y) × EqualUpTo n v w

-- the first n entries are equal, and the next one of v is less than that of w
abbrev pub LessAfter : ℕ → List ℤ → List ℤ → Type 0
LessAfter n [] w = ⊥
LessAfter n (x ∷ v) [] = ⊥
LessAfter zero (x ∷ v) (y ∷ w) = x <ℤ y
LessAfter (suc n) (x ∷ v) (y ∷ w) = (x ≡ y) × LessAfter n v w

-- the levels at which instances of two statements with these beta vectors can be ordered: each loop around both, numbered
-- from 1, and 0 where the first statement stands before the second one in the text
abbrev pub IsLevel : List ℤ → List ℤ → ℕ → Type 0
IsLevel p q zero = is_textually_before p q ≡ true
IsLevel p q (suc n) = n < common_loops p q

-- these levels as a list, 0 at the end
abbrev pub levels_between : List ℤ → List ℤ → List ℕ
levels_between p q = range_with_len 1 (common_loops p q) ++ (if is_textually_before p q then 0 ∷ [] else [])

-- v and w are the values of the levels of two instances with these many loops around both, and level l orders them: at level 0
-- all values of these loops are equal, at another one the values before it are, and its own value in v is less
abbrev pub OrdersAt : ℕ → List ℤ → List ℤ → ℕ → Type 0
OrdersAt common v w zero = EqualUpTo common v w
OrdersAt common v w (suc n) = LessAfter n v w

-- the values of a schedule's levels at iterator values x
abbrev pub level_values : Schedule → List ℤ → List ℤ → List ℤ
level_values schedule x n = levels_at schedule.levels x (floors_after [] schedule.floors x n) n
