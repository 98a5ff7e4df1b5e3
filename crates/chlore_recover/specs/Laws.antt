-- What holds of recoverable levels and of the script for one statement.
use Rattle.std.specs.Prelude.{◌≡◌, ℤ, ℕ, true, false, None, List, length}
use Rattle.chlore_recover.specs.Triangles.{Signed, IsFactored, AreLong, leads}
use Rattle.beta_tree.specs.Vectors.{no_statement}
use Rattle.clay_script.specs.declared.commands.Command.{Command}
use Rattle.clay_script.specs.Commands.{prefix_of}
use Rattle.clay_commands.specs.Arguments.{are_natural, prefix_in}
use Rattle.clay_commands.specs.Drafts.{Draft, betas_of}
use Rattle.clay_commands.specs.Refusals.{refusal_at}
use Rattle.clay_commands.specs.Steps.{AllUnder}
use Rattle.scop_data.specs.declared.affines.Affine.{Affine}
use Rattle.scop_data.specs.declared.schedules.Schedule.{Schedule}
use Rattle.chlore_recover.specs.Recoverable.{ends_apart, triangle_of, rows_of, AreClansFrom}
use Rattle.chlore_recover.specs.LevelScripts.{level_script}
use Rattle.chlore_recover.specs.Runs.{at_levels, Suits, Runs, AllSmall, AreForms}

-- d rows of d entries that end apart are a signed permutation, their leads, times a unit lower triangle
abbrev pub ApartIsFactored : Type 0
ApartIsFactored = (d : ℕ) (rows : List (List ℤ)) → AreLong d rows → ends_apart d rows ≡ true → IsFactored d (leads rows) (triangle_of d rows) rows

-- the rows of a signed permutation times a unit lower triangle end apart, and both are determined
abbrev pub FactoredIsApart : Type 0
FactoredIsApart = (d : ℕ) (P : Signed) (L rows : List (List ℤ)) → IsFactored d P L rows → (ends_apart d rows ≡ true) × (P ≡ leads rows) × (L ≡ triangle_of d rows)

-- the script for levels in Clan's form and recoverable ones with coefficients in range runs from the first to the second, under
-- any prefix
abbrev pub ScriptRecoversLevels : Type 0
ScriptRecoversLevels =
    (parameters : ℕ) (p : List ℤ) (schedule : Schedule) (original target : List Affine) (P : Signed) (L : List (List ℤ))
    → AreClansFrom parameters 0 (length target) original → IsFactored (length target) P L (rows_of target) → AllSmall (rows_of target) → AreForms parameters target
    → Runs parameters (level_script p original target) (at_levels schedule original) (at_levels schedule target)

-- a command whose prefix has statements, and which suits the levels of each of them, is not refused: no condition, limit or sum
abbrev pub SuitedIsUnrefused : Type 0
SuitedIsUnrefused =
    (parameters i : ℕ) (command : Command) (D : Draft) → are_natural (prefix_of command) ≡ true → no_statement (prefix_in command) (betas_of D) ≡ false
    → AllUnder (prefix_in command) (λ s. Suits parameters command s.schedule.levels) D → refusal_at parameters i command D ≡ None
