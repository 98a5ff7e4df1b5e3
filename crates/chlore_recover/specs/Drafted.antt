-- What the script's commands do to drafts: those on vectors to leaves in any order, those on levels to the leaves under their prefix.
use Rattle.std.specs.Prelude.{◌≡◌, ◌+◌, ℤ, pos, ℕ, true, false, if◌then◌else◌, None, List, [], ◌∷◌, length, map}
use Rattle.beta_tree.specs.Vectors.{In, IsTree, no_statement}
use Rattle.clay_script.specs.declared.commands.Command.{Command}
use Rattle.clay_script.specs.Commands.{prefix_of}
use Rattle.scop_data.specs.declared.affines.Affine.{Affine}
use Rattle.scop_data.specs.declared.schedules.Schedule.{Schedule}
use Rattle.clay_commands.specs.declared.leaves.Leaf.{Leaf}
use Rattle.clay_commands.specs.Arguments.{natural, are_natural}
use Rattle.clay_commands.specs.Drafts.{Draft, betas_of, is_under, scheduled, with_beta, vector_after, drafts_after}
use Rattle.clay_commands.specs.Steps.{AllUnder, IsPlainCommand}
use Rattle.chlore_recover.specs.Triangles.{Signed, IsFactored}
use Rattle.chlore_recover.specs.Recoverable.{rows_of, AreClansFrom}
use Rattle.chlore_recover.specs.LevelScripts.{forms_along, level_script}
use Rattle.chlore_recover.specs.Runs.{at_levels, Runs, AllSmall, AreForms}
use Rattle.clay_commands.specs.Refusals.{first_refusal}
use Rattle.scop_core.specs.ScopData.{ScopData}
use Rattle.chlore_recover.specs.Strategy.{Placed, levels_in, all_levels}
use Rattle.chlore_recover.specs.Splits.{VectorsLead}

-- two lists have the same members
pub record HaveSame (V W : List (List ℕ)) : Type 0 where
  pub there : (v : List ℕ) → In v V → In v W
  pub back : (v : List ℕ) → In v W → In v V

-- a vector among W after commands on vectors alone
abbrev pub vector_along : List Command → List (List ℕ) → List ℕ → List ℕ
vector_along [] W v = v
vector_along (command ∷ commands) W v = vector_along commands (map (vector_after command W) W) (vector_after command W v)

-- commands that lead from a tree to vectors are not refused for leaves with the tree's vectors, in whatever order, and give each leaf
-- what they make of its vector
abbrev pub LeavesAreLed : Type 0
LeavesAreLed =
    (parameters i : ℕ) (script : List Command) (D : Draft) (W U : List (List ℕ)) → IsTree W → HaveSame (betas_of D) W → VectorsLead script W U
    → (first_refusal parameters i script D ≡ None) × (drafts_after script D ≡ map (λ leaf. with_beta (vector_along script W leaf.beta) leaf) D)
    × (U ≡ map (vector_along script W) W)

-- each command edits levels under the prefix p
abbrev pub AreLevelsUnder : List ℤ → List Command → Type 0
AreLevelsUnder p [] = Unit {0}
AreLevelsUnder p (command ∷ commands) = IsPlainCommand command × (prefix_of command ≡ p) × AreLevelsUnder p commands

-- no command of these is refused for a schedule
abbrev pub IsTaken : ℕ → List Command → Schedule → Type 0
IsTaken parameters commands schedule = Runs parameters commands schedule (forms_along commands schedule)

-- a leaf under P with what commands make of its floors and levels
abbrev pub leveled : List Command → List ℕ → Leaf → Leaf
leveled commands P leaf =
    if is_under P leaf.beta then record leaf { statement = scheduled leaf.statement (forms_along commands leaf.statement.schedule) } else leaf

-- commands on levels under one prefix, which has statements, are not refused where none is for any of these, and change each of them alike
abbrev pub LevelsAreLed : Type 0
LevelsAreLed =
    (parameters i : ℕ) (p : List ℤ) (script : List Command) (D : Draft) → are_natural p ≡ true → no_statement (map natural p) (betas_of D) ≡ false
    → AreLevelsUnder p script → AllUnder (map natural p) (λ s. IsTaken parameters script s.schedule) D
    → (first_refusal parameters i script D ≡ None) × (drafts_after script D ≡ map (leveled script (map natural p)) D)

-- the commands for one statement's levels are of this kind, are taken, and make the target's levels
abbrev pub LevelScriptIsTaken : Type 0
LevelScriptIsTaken =
    (parameters : ℕ) (p : List ℤ) (schedule : Schedule) (original target : List Affine) (P : Signed) (L : List (List ℤ))
    → AreClansFrom parameters 0 (length target) original → IsFactored (length target) P L (rows_of target) → AllSmall (rows_of target) → AreForms parameters target
    → AreLevelsUnder p (level_script p original target) × IsTaken parameters (level_script p original target) (at_levels schedule original)
    × (forms_along (level_script p original target) (at_levels schedule original) ≡ at_levels schedule target)

-- the script for the levels of the statement e, which stands in the loop r
abbrev pub script_at : ScopData → ScopData → ℕ → Placed → List Command
script_at O T r e = level_script (pos r ∷ []) (levels_in O e.0) (levels_in T e.0)

-- the loops from r on have statements, and no command for the levels of the statement that stands there is refused for them
abbrev pub Await : ℕ → ScopData → ScopData → ℕ → List Placed → Draft → Type 0
Await parameters O T r [] D = Unit {0}
Await parameters O T r (e ∷ placed) D =
    (no_statement (r ∷ []) (betas_of D) ≡ false) × AllUnder (r ∷ []) (λ s. IsTaken parameters (script_at O T r e) s.schedule) D
    × Await parameters O T (r + 1) placed D

-- a leaf with the levels that the scripts for the loops from r on give it
abbrev pub leveled_from : ScopData → ScopData → ℕ → List Placed → Leaf → Leaf
leveled_from O T r [] leaf = leaf
leveled_from O T r (e ∷ placed) leaf = leveled_from O T (r + 1) placed (leveled (script_at O T r e) (r ∷ []) leaf)

-- then the scripts for all these levels, one after the other, are not refused, and change each leaf by the one for its loop
abbrev pub AllLevelsAreLed : Type 0
AllLevelsAreLed =
    (parameters i r : ℕ) (O T : ScopData) (placed : List Placed) (D : Draft) → Await parameters O T r placed D
    → (first_refusal parameters i (all_levels O T r placed) D ≡ None) × (drafts_after (all_levels O T r placed) D ≡ map (leveled_from O T r placed) D)
