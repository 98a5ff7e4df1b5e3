-- The script for one statement's levels has commands on levels under its prefix alone.
use Rattle.std.proofs.Common.{◌≡◌, ℤ, pos, ℕ, ◌+◌, ◌-◌, ◌==◌, Bool, true, false, if◌then◌else◌, ◌&&◌, List, [], ◌∷◌, ◌++◌, length, map, take, swap, refl, sym, subst}
use Rattle.std.specs.List.{range_with_len}
use Rattle.std.specs.Ordering.{int_eq}
use Rattle.beta_tree.specs.Edits.{place_of}
use Rattle.scop_data.specs.declared.affines.Affine.{Affine}
use Rattle.scop_data.specs.declared.schedules.Schedule.{Schedule}
use Rattle.clay_script.specs.declared.commands.Command.{Command}
use Rattle.clay_script.specs.declared.commands.Command.TheVariants.{Interchange, Skew, Shift, Reverse}
use Rattle.clay_script.specs.Commands.{prefix_of}
use Rattle.clay_commands.specs.Drafts.{forms_after}
use Rattle.clay_commands.specs.Steps.{IsPlainCommand}
use Rattle.chlore_recover.specs.Triangles.{is_zero, last_value, last_place, sign_at}
use Rattle.chlore_recover.specs.Recoverable.{rows_of, triangle_of}
use Rattle.chlore_recover.specs.LevelScripts.{reverse_where, first_reverses, row_skews, skews, second_reverses, interchanges, shifts, level_script, forms_along}
use Rattle.chlore_recover.specs.Runs.{at_levels, Runs}
use Rattle.chlore_recover.specs.Drafted.{AreLevelsUnder, LevelScriptIsTaken}
use Rattle.chlore_recover.proofs.Levels.{script_recovers_levels}

are_both : (p : List ℤ) (A B : List Command) → AreLevelsUnder p A → AreLevelsUnder p B → AreLevelsUnder p (A ++ B)
are_both p [] B a b = b
are_both p (command ∷ A) B (is, own, a) b = (is, own, are_both p A B a b)

-- a command or none
one_where : (p : List ℤ) (t : Bool) (command : Command) → IsPlainCommand command → prefix_of command ≡ p → AreLevelsUnder p (if t then command ∷ [] else [])
one_where p true command is own = (is, own, tt)
one_where p false command is own = tt

none_where : (p : List ℤ) (t : Bool) (command : Command) → IsPlainCommand command → prefix_of command ≡ p → AreLevelsUnder p (if t then [] else command ∷ [])
none_where p true command is own = tt
none_where p false command is own = (is, own, tt)

firsts_are : (p : List ℤ) (k : ℕ) (rows : List (List ℤ)) → AreLevelsUnder p (first_reverses p k rows)
firsts_are p k [] = tt
firsts_are p k (row ∷ rows) =
    are_both p (reverse_where (last_value row) p k) (first_reverses p (k + 1) rows) (one_where p _ (Reverse p (pos k)) tt refl) (firsts_are p (k + 1) rows)

row_skews_are : (p : List ℤ) (i j : ℕ) (row : List ℤ) → AreLevelsUnder p (row_skews p i j row)
row_skews_are p i j [] = tt
row_skews_are p i j (f ∷ factors) =
    are_both p (if int_eq f (pos 0) then [] else Skew p (pos i) (pos j) f ∷ []) (row_skews p i (j + 1) factors)
    (none_where p (int_eq f (pos 0)) (Skew p (pos i) (pos j) f) tt refl) (row_skews_are p i (j + 1) factors)

skews_are : (p : List ℤ) (i : ℕ) (rows : List (List ℤ)) → AreLevelsUnder p (skews p i rows)
skews_are p i [] = tt
skews_are p i (row ∷ rows) =
    are_both p (skews p (i + 1) rows) (row_skews p i 1 (take (i - 1) row)) (skews_are p (i + 1) rows) (row_skews_are p i 1 (take (i - 1) row))

seconds_are : (p : List ℤ) (places : List ℕ) (rows : List (List ℤ)) → AreLevelsUnder p (second_reverses p places rows)
seconds_are p [] rows = tt
seconds_are p (i ∷ places) rows =
    are_both p (reverse_where (sign_at i rows) p (i + 1)) (second_reverses p places rows) (one_where p _ (Reverse p (pos (i + 1))) tt refl) (seconds_are p places rows)

interchanges_are : (p : List ℤ) (k : ℕ) (standing wanted : List ℕ) → AreLevelsUnder p (interchanges p k standing wanted)
interchanges_are p k standing [] = tt
interchanges_are p k standing (i ∷ wanted) =
    elim (place_of i standing == k) as (λ t. AreLevelsUnder p (if t then interchanges p (k + 1) standing wanted else Interchange p (pos (k + 1)) (pos (place_of i standing + 1)) ∷ interchanges p (k + 1) (swap standing k (place_of i standing)) wanted)) [
      | true ↦ interchanges_are p (k + 1) standing wanted
      | false ↦ (tt, refl, interchanges_are p (k + 1) (swap standing k (place_of i standing)) wanted)
    ]

shifts_are : (p : List ℤ) (k : ℕ) (target : List Affine) → AreLevelsUnder p (shifts p k target)
shifts_are p k [] = tt
shifts_are p k (form ∷ target) =
    are_both p (if is_zero form.parameters && int_eq form.constant (pos 0) then [] else Shift p (pos k) form.parameters form.constant ∷ []) (shifts p (k + 1) target)
    (none_where p (is_zero form.parameters && int_eq form.constant (pos 0)) (Shift p (pos k) form.parameters form.constant) tt refl) (shifts_are p (k + 1) target)

pub script_is : (p : List ℤ) (original target : List Affine) → AreLevelsUnder p (level_script p original target)
script_is p original target =
    let rows : List (List ℤ) = rows_of target in
    let places : List ℕ = range_with_len 0 (length target) in
    let A : List Command = first_reverses p 1 (rows_of original) in
    let B : List Command = skews p 1 (triangle_of (length target) rows) in
    let C : List Command = second_reverses p places rows in
    let D : List Command = interchanges p 0 places (map last_place rows) in
    are_both p (A ++ B ++ C ++ D) (shifts p 1 target)
    (are_both p (A ++ B ++ C) D (are_both p (A ++ B) C (are_both p A B (firsts_are p 1 (rows_of original)) (skews_are p 1 (triangle_of (length target) rows))) (seconds_are p places rows))
    (interchanges_are p 0 places (map last_place rows)))
    (shifts_are p 1 target)

-- what runs from one schedule to another makes the other
runs_make : (n : ℕ) (script : List Command) (a b : Schedule) → Runs n script a b → forms_along script a ≡ b
runs_make n [] a b e = e
runs_make n (command ∷ script) a b (s, r) = runs_make n script (forms_after command a) b r

pub level_script_is_taken : LevelScriptIsTaken
level_script_is_taken n p schedule original target P L clans factored small forms =
    let run = script_recovers_levels n p schedule original target P L clans factored small forms in
    let made = runs_make n (level_script p original target) (at_levels schedule original) (at_levels schedule target) run in
    (script_is p original target, subst (λ b. Runs n (level_script p original target) (at_levels schedule original) b) (sym made) run, made)
