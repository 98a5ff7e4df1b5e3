-- What a script keeps of a SCoP: its instances, under the numbers of their originals.
use Rattle.std.specs.Prelude.{◌≡◌, ◌<◌, ◌+◌, ◌^◌, ℕ, ℤ, None, List, [], ◌∷◌, ◌++◌, length, IsSomeAnd}
use Rattle.scop_data.specs.declared.schedules.Schedule.{Schedule}
use Rattle.scop_data.specs.declared.statements.Statement.{Statement}
use Rattle.scop_core.specs.ScopData.{ScopData}
use Rattle.scop_core.specs.Meaning.{Instance, floors_after, Run}
use Rattle.scop_core.specs.Validity.{IsValid}
use Rattle.scop_core.specs.Theorems.{HasValidSchedules}
use Rattle.scop_core.specs.MappedRuns.{MapsInstances}
use Rattle.scop_core.specs.RunLaws.{HasNoTies}
use Rattle.dependence_systems.specs.Sides.{member}
use Rattle.dependence_systems.specs.Originals.{as_original}
use Rattle.clay_script.specs.declared.commands.Command.{Command}
use Rattle.clay_commands.specs.declared.edited.Edited.{Edited}
use Rattle.clay_commands.specs.Afters.{after_script, IsFormed, refusal_of}

-- the floors of one schedule begin with those of another, by their values
abbrev pub FloorsGoOn : Schedule → Schedule → Type 0
FloorsGoOn old now = (x n : List ℤ) → (rest : List ℤ) × (floors_after [] now.floors x n ≡ floors_after [] old.floors x n ++ rest)

-- a statement has the body and the accesses of its original, and floors that go on those of it
pub record IsPieceOf (original s : Statement) : Type 0 where
  pub body : s.body ≡ original.body
  pub accesses : s.accesses ≡ original.accesses
  pub floors : FloorsGoOn original.schedule s.schedule

-- each statement is a piece of the one of its number among the old ones
abbrev pub ArePiecesOf : List Statement → List Statement → List ℕ → Type 0
ArePiecesOf old [] [] = Unit {0}
ArePiecesOf old [] (k ∷ of) = ⊥
ArePiecesOf old (s ∷ now) [] = ⊥
ArePiecesOf old (s ∷ now) (k ∷ of) = IsSomeAnd (member old k) (λ original. IsPieceOf original s) × ArePiecesOf old now of

-- the edited SCoP has the context of the old one, its statements are pieces of the old ones, and for parameter values of the right length
-- its instances are those of the old SCoP under the numbers of their originals, each once and with the same events
pub record KeepsInstancesOf (S : ScopData) (edited : Edited) : Type 0 where
  pub context : S.context ≡ edited.scop.context
  pub pieces : ArePiecesOf S.statements edited.scop.statements edited.of
  pub instances : (n : List ℤ) → length n ≡ S.context.shape.parameters → MapsInstances edited.scop S n (as_original edited.of)

-- a script of which no condition fails does so, past the limits too
abbrev pub ScriptsKeepInstances : Type 0
ScriptsKeepInstances = (S : ScopData) (script : List Command) → IsValid S → IsFormed S script → KeepsInstancesOf S (after_script S script)

-- and where the new schedules are valid and the old SCoP has a run, no two new instances have one stamp
abbrev pub ScriptsMakeNoTies : Type 0
ScriptsMakeNoTies = (S : ScopData) (script : List Command) → IsValid S → IsFormed S script → HasValidSchedules (after_script S script).scop.statements
    → (n : List ℤ) (L : List Instance) → length n ≡ S.context.shape.parameters → Run S n L → HasNoTies (after_script S script).scop n

-- a script that is not refused is such
abbrev pub UnrefusedScriptsAreFormed : Type 0
UnrefusedScriptsAreFormed = (S : ScopData) (script : List Command) → refusal_of S script ≡ None → IsFormed S script

-- with fewer than 2^32 statements and commands together the new schedules are valid, past the limits too
abbrev pub ScriptsKeepSchedulesValid : Type 0
ScriptsKeepSchedulesValid = (S : ScopData) (script : List Command) → IsValid S → IsFormed S script → length S.statements + length script < 2 ^ 32
    → HasValidSchedules (after_script S script).scop.statements

-- then the edited SCoP has a run where the old one has
abbrev pub ScriptsKeepRuns : Type 0
ScriptsKeepRuns = (S : ScopData) (script : List Command) → IsValid S → IsFormed S script → length S.statements + length script < 2 ^ 32
    → (n : List ℤ) (L : List Instance) → length n ≡ S.context.shape.parameters → Run S n L → (M : List Instance) × Run (after_script S script).scop n M
