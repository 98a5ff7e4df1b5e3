-- Where a script brings the instances of a SCoP, and the values of its levels at any point.
use Rattle.std.specs.Prelude.{◌≡◌, ◌↔◌, ◌<◌, ◌+◌, ◌^◌, ℕ, ℤ, List, [], ◌∷◌, length}
use Rattle.scop_data.specs.declared.statements.Statement.{Statement}
use Rattle.scop_core.specs.ScopData.{ScopData}
use Rattle.scop_core.specs.Meaning.{Instance, IsInstance, Run, stamp, stamp_in, statement_at}
use Rattle.scop_core.specs.Sequences.{In}
use Rattle.scop_core.specs.Validity.{IsValid}
use Rattle.scop_core.specs.Theorems.{IsStatement}
use Rattle.dependence_systems.specs.Originals.{as_original}
use Rattle.clay_script.specs.declared.commands.Command.{Command}
use Rattle.clay_script.specs.declared.commands.Command.TheVariants.{Iss}
use Rattle.clay_commands.specs.Afters.{after_script, IsFormed}
use Rattle.clay_commands.specs.Spots.{edits, stamp_at, values_in}

-- the instance where a script brings an instance
abbrev pub edited_instance : ScopData → List Command → List ℤ → Instance → Instance
edited_instance S script n a = record { statement = (edits S script a.statement a.values n).spot.number; values = a.values }

-- it is an instance of the edited SCoP, it has the edited stamp, and it comes from the old instance
pub record IsBrought (S : ScopData) (script : List Command) (n : List ℤ) (a : Instance) : Type 0 where
  pub there : IsInstance (after_script S script).scop n (edited_instance S script n a)
  pub stamp_is : stamp (after_script S script).scop n (edited_instance S script n a) ≡ stamp_at (edits S script a.statement a.values n)
  pub original : as_original (after_script S script).of (edited_instance S script n a) ≡ a

-- a script of which no condition fails brings each instance to such a one, and every new instance is where it brings the one that it comes from
pub record BringsInstances (S : ScopData) (script : List Command) (n : List ℤ) : Type 0 where
  pub each : (a : Instance) → IsInstance S n a → IsBrought S script n a
  pub only : (b : Instance) → IsInstance (after_script S script).scop n b → b ≡ edited_instance S script n (as_original (after_script S script).of b)

abbrev pub ScriptsBringInstances : Type 0
ScriptsBringInstances = (S : ScopData) (script : List Command) → IsValid S → IsFormed S script → length S.statements + length script < 2 ^ 32
    → (n : List ℤ) → length n ≡ S.context.shape.parameters → BringsInstances S script n

-- a script splits no statement
abbrev pub SplitsNone : List Command → Type 0
SplitsNone [] = Unit {0}
SplitsNone (Iss p xs ns c ∷ script) = ⊥
SplitsNone (other ∷ script) = SplitsNone script

-- then statement number k keeps its number, and its edited values and stamp are those of its forms at all integers
pub record HasEditedValues (S : ScopData) (script : List Command) (k : ℕ) (x n : List ℤ) : Type 0 where
  pub number : (edits S script k x n).spot.number ≡ k
  pub values : (edits S script k x n).spot.values ≡ values_in (statement_at (after_script S script).scop.statements k) x n
  pub stamp_is : stamp_at (edits S script k x n) ≡ stamp_in (statement_at (after_script S script).scop.statements k) x n

abbrev pub ScriptsEditValues : Type 0
ScriptsEditValues = (S : ScopData) (script : List Command) → IsValid S → IsFormed S script → SplitsNone script
    → (k : ℕ) (s : Statement) → IsStatement S.statements k s → (x n : List ℤ) → HasEditedValues S script k x n

-- the members of a run of the edited SCoP are the instances where the script brings those of the old one
abbrev pub RunsHaveEditedInstances : Type 0
RunsHaveEditedInstances = (S : ScopData) (script : List Command) → IsValid S → IsFormed S script → length S.statements + length script < 2 ^ 32
    → (n : List ℤ) (M : List Instance) → length n ≡ S.context.shape.parameters → Run (after_script S script).scop n M
    → (b : Instance) → In b M ↔ ((a : Instance) × IsInstance S n a × (edited_instance S script n a ≡ b))
