-- Words of the contracts on rows.
use Rattle.std.specs.Prelude.{◌≡◌, ℤ, List, Result, Ok, Err}
use Rattle.suite_base.specs.declared.refusals.Fail.{Fail}
use Rattle.suite_base.specs.declared.refusals.Fail.TheVariants as fail
use Rattle.suite_base.specs.declared.refusals.Refusal.{Refusal}
use Rattle.relation_core.specs.declared.part_rows.RowKind.{RowKind}
use Rattle.relation_core.specs.declared.part_rows.PartRow.{PartRow}
use Rattle.relation_core.specs.declared.shapes.Shape.{Shape}
use Rattle.relation_core.specs.Systems.{System}
use Rattle.scop_reader.specs.Lines.{Rest}
use Rattle.scop_reader.specs.Reading.{Outcome, mapped}
use Rattle.scop_reader.specs.Rules.{row_of}

-- these numbers are wanted
abbrev pub GivesTo : Result (List ℤ) Refusal → Result (Unit {0}) Fail → List ℤ → Type 0
GivesTo wanted (Ok _) entries = wanted ≡ Ok entries
GivesTo wanted (Err fail.Memory) entries = Unit {0}
GivesTo wanted (Err (fail.Refused refusal)) entries = wanted ≡ Err refusal

-- the row of these numbers is wanted
abbrev pub GivesRow : Result (List ℤ) Refusal → Result RowKind Fail → List ℤ → Type 0
GivesRow wanted (Ok kind) entries = mapped row_of wanted ≡ Ok (record { kind = kind; entries = entries })
GivesRow wanted (Err fail.Memory) entries = Unit {0}
GivesRow wanted (Err (fail.Refused refusal)) entries = wanted ≡ Err refusal

-- the row of this kind and these entries is read
abbrev pub ReadsRow : Outcome PartRow → Result RowKind Fail → List ℤ → Rest → Type 0
ReadsRow outcome (Ok kind) entries now = outcome ≡ Ok (record { kind = kind; entries = entries }, now)
ReadsRow outcome (Err fail.Memory) entries now = Unit {0}
ReadsRow outcome (Err (fail.Refused refusal)) entries now = outcome ≡ Err refusal

-- the rows of a part of this shape are read
abbrev pub ReadsRows : Outcome (List PartRow) → Shape → Result (Unit {0}) Fail → System → Rest → Type 0
ReadsRows outcome shape (Ok _) part now = (outcome ≡ Ok (part.rows, now)) × (part.shape ≡ shape)
ReadsRows outcome shape (Err fail.Memory) part now = Unit {0}
ReadsRows outcome shape (Err (fail.Refused refusal)) part now = outcome ≡ Err refusal
