-- When a block is the defined one, entry by entry.
use Rattle.std.specs.Prelude.{◌≡◌, ◌<◌, ◌≤◌, ◌^◌, ◌↔◌, ℕ, ℤ, pos, length, List, [], ◌∷◌, ◌++◌, Option, Some, None, Ok}
use Rattle.suite_base.specs.Limits.{max_systems}
use Rattle.suite_base.specs.Words.{words}
use Rattle.relation_core.specs.Systems.{System, columns}
use Rattle.relation_core.specs.declared.part_rows.PartRow.{PartRow}
use Rattle.scop_data.specs.LineWords.{row_numbers, header_numbers}
use Rattle.farkas_cert.specs.Texts.{certificate_read}
use Rattle.farkas_cert.specs.Certificates.{Valid, IsTooHeavy}
use Rattle.scop_core.specs.ScopData.{ScopData}
use Rattle.dependence_systems.specs.declared.dependences.Dep.{Dep}
use Rattle.dependence_systems.specs.Sides.{Side, own_sides}
use Rattle.dependence_systems.specs.Entries.{entries}
use Rattle.dependence_systems.specs.Systems.{system_of, summand_weight}
use Rattle.dependence_blocks.specs.Blocks.{block_name, entry_words, verdict_word}
use Rattle.dependence_audit.specs.Contents.{contents}
use Rattle.dependence_audit.specs.Audits.{Verdicts, first_named, verdicts_in}

-- the words of the line are number words in range, of these numbers
abbrev pub Says : List ℕ → List ℤ → Type 0
Says line numbers = certificate_read line ≡ Some numbers

-- the lines say the rows, a line each
abbrev pub SayRows : List PartRow → List (List ℕ) → Type 0
SayRows [] [] = Unit {0}
SayRows [] (line ∷ lines) = ⊥
SayRows (row ∷ rows) [] = ⊥
SayRows (row ∷ rows) (line ∷ lines) = Says line (row_numbers row) × SayRows rows lines

-- the lines of a verdict: the six numbers of a kept system and its rows; or one line of multipliers, which are a valid
-- certificate that is not too heavy
abbrev pub SayVerdict : System → Option (List ℤ) → List (List ℕ) → Type 0
SayVerdict system None [] = ⊥
SayVerdict system None (line ∷ lines) = Says line (header_numbers system) × SayRows system.rows lines
SayVerdict system (Some ls) [] = ⊥
SayVerdict system (Some ls) (line ∷ []) =
    Says line ls × Valid (columns system.shape) system.rows ls × (¬ IsTooHeavy (columns system.shape) system.rows ls)
SayVerdict system (Some ls) (line ∷ (next ∷ lines)) = ⊥

-- what is left of these lines begins with the defined entry: its eight words and its verdict, then the lines of the verdict;
-- no summands of its system overflow
pub record BeginsDefined (e : Dep) (system : System) (weight : ℕ) (verdict : Option (List ℤ)) (lines rest : List (List ℕ)) : Type 0 where
  pub light : weight < 2 ^ 127
  pub head : List ℕ
  pub own : List (List ℕ)
  pub split : lines ≡ head ∷ (own ++ rest)
  pub head_is : words head ≡ entry_words e ++ verdict_word verdict ∷ []
  pub verdict_is : SayVerdict system verdict own

-- the defined entries in order, and nothing behind them
abbrev pub AreDefined : System → List Side → List Dep → Verdicts → List (List ℕ) → Type 0
AreDefined context sides [] [] lines = lines ≡ []
AreDefined context sides [] (verdict ∷ verdicts) lines = ⊥
AreDefined context sides (e ∷ list) [] lines = ⊥
AreDefined context sides (e ∷ list) (verdict ∷ verdicts) lines =
    (rest : List (List ℕ)) × BeginsDefined e (system_of context sides e) (summand_weight context sides e) verdict lines rest
    × AreDefined context sides list verdicts rest

-- the first global block of a SCoP with at most 65,536 systems has the number of systems, then the defined entries with these
-- verdicts, then nothing
pub record IsDefinedBlock (S : ScopData) (verdicts : Verdicts) : Type 0 where
  pub few : length (entries (own_sides S)) ≤ max_systems
  pub lines : List (List ℕ)
  pub first : List ℕ
  pub others : List (List ℕ)
  pub block : first_named block_name S.extensions ≡ Some lines
  pub split : contents lines ≡ first ∷ others
  pub count : Says first (pos (length (entries (own_sides S))) ∷ [])
  pub entries_are : AreDefined S.context (own_sides S) (entries (own_sides S)) verdicts others

-- the audit states verdicts exactly where the block is the defined one with these verdicts
abbrev pub AuditIsExact : Type 0
AuditIsExact = (S : ScopData) (verdicts : Verdicts) → verdicts_in S ≡ Ok verdicts ↔ IsDefinedBlock S verdicts
