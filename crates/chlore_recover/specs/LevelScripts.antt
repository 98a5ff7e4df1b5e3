-- The commands that turn the levels of one statement, in Clan's form, into recoverable ones.
use Rattle.std.specs.Prelude.{ℤ, pos, negsuc, ℕ, ◌+◌, ◌-◌, ◌==◌, if◌then◌else◌, ◌&&◌, List, [], ◌∷◌, ◌++◌, length, map, take, swap}
use Rattle.std.specs.List.{range_with_len}
use Rattle.std.specs.Ordering.{int_eq}
use Rattle.beta_tree.specs.Edits.{place_of}
use Rattle.scop_data.specs.declared.affines.Affine.{Affine}
use Rattle.scop_data.specs.declared.schedules.Schedule.{Schedule}
use Rattle.clay_script.specs.declared.commands.Command.{Command}
use Rattle.clay_script.specs.declared.commands.Command.TheVariants.{Interchange, Skew, Shift, Reverse}
use Rattle.clay_commands.specs.Drafts.{forms_after}
use Rattle.chlore_recover.specs.Triangles.{is_zero, last_value, last_place, sign_at}
use Rattle.chlore_recover.specs.Recoverable.{rows_of, triangle_of}

-- the command, where the sign is -1
abbrev pub reverse_where : ℤ → List ℤ → ℕ → List Command
reverse_where g p k = if int_eq g (negsuc 0) then Reverse p (pos k) ∷ [] else []

-- a reverse of each level, counted from k on, that is negative
abbrev pub first_reverses : List ℤ → ℕ → List (List ℤ) → List Command
first_reverses p k [] = []
first_reverses p k (row ∷ rows) = reverse_where (last_value row) p k ++ first_reverses p (k + 1) rows

-- skews of level i by levels j and so on, by the factors that aren't 0
abbrev pub row_skews : List ℤ → ℕ → ℕ → List ℤ → List Command
row_skews p i j [] = []
row_skews p i j (f ∷ factors) = (if int_eq f (pos 0) then [] else Skew p (pos i) (pos j) f ∷ []) ++ row_skews p i (j + 1) factors

-- the skews of a triangle's rows, counted from i on, the last row first
abbrev pub skews : List ℤ → ℕ → List (List ℤ) → List Command
skews p i [] = []
skews p i (row ∷ rows) = skews p (i + 1) rows ++ row_skews p i 1 (take (i - 1) row)

-- a reverse of each iterator, from place i on, for which the level that ends there has the sign -1
abbrev pub second_reverses : List ℤ → List ℕ → List (List ℤ) → List Command
second_reverses p [] rows = []
second_reverses p (i ∷ places) rows = reverse_where (sign_at i rows) p (i + 1) ++ second_reverses p places rows

-- interchanges of each level, from place k on, with the one where the row wanted there stands now
abbrev pub interchanges : List ℤ → ℕ → List ℕ → List ℕ → List Command
interchanges p k standing [] = []
interchanges p k standing (i ∷ wanted) =
    if place_of i standing == k then interchanges p (k + 1) standing wanted
    else Interchange p (pos (k + 1)) (pos (place_of i standing + 1)) ∷ interchanges p (k + 1) (swap standing k (place_of i standing)) wanted

-- a shift of each level, counted from k on, that has a coefficient of a parameter or a constant that isn't 0
abbrev pub shifts : List ℤ → ℕ → List Affine → List Command
shifts p k [] = []
shifts p k (form ∷ levels) =
    (if is_zero form.parameters && int_eq form.constant (pos 0) then [] else Shift p (pos k) form.parameters form.constant ∷ [])
    ++ shifts p (k + 1) levels

-- the commands for the statement under prefix p, whose levels are these, to get the target's
abbrev pub level_script : List ℤ → List Affine → List Affine → List Command
level_script p original target =
    let rows = rows_of target
    in let places = range_with_len 0 (length target)
    in first_reverses p 1 (rows_of original) ++ skews p 1 (triangle_of (length target) rows) ++ second_reverses p places rows
    ++ interchanges p 0 places (map last_place rows) ++ shifts p 1 target

-- the floors and levels of a statement under the commands' prefix after the commands
abbrev pub forms_along : List Command → Schedule → Schedule
forms_along [] schedule = schedule
forms_along (command ∷ commands) schedule = forms_along commands (forms_after command schedule)
