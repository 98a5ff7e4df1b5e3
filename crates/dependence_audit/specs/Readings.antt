-- How one entry of a block is read against the entry that it has to be.
use Rattle.std.specs.Prelude.{◌≡◌, ℤ, pos, ℕ, zero, suc, ◌+◌, ◌^◌, ◌==◌, nat_le, int_le, int_lt, Bool, true, false, ◌&&◌, ◌||◌, if◌then◌else◌, List, [], ◌∷◌, ◌++◌, length, codes, Option, Some, None}
use Rattle.std.specs.Ordering.{int_eq}
use Rattle.suite_base.specs.Words.{words}
use Rattle.relation_core.specs.Systems.{System, columns}
use Rattle.relation_core.specs.Points.{column, column_weight}
use Rattle.relation_core.specs.declared.part_rows.PartRow.{PartRow}
use Rattle.relation_core.specs.declared.part_rows.RowKind.{RowKind}
use Rattle.relation_core.specs.declared.part_rows.RowKind.TheVariants.{Equal, AtLeast}
use Rattle.scop_data.specs.LineWords.{are_same, row_numbers, header_numbers}
use Rattle.farkas_cert.specs.Texts.{certificate_read}
use Rattle.dependence_systems.specs.declared.dependences.Dep.{Dep}
use Rattle.dependence_blocks.specs.Blocks.{entry_words}
use Rattle.dependence_audit.specs.declared.readings.Finding.{Finding}
use Rattle.dependence_audit.specs.declared.readings.Finding.TheVariants as finding
use Rattle.dependence_audit.specs.Contents.{says}

-- an inequality may be multiplied by what is not negative, an equality by anything
abbrev pub may_multiply : RowKind → ℤ → Bool
may_multiply Equal l = true
may_multiply AtLeast l = int_le (pos 0) l

-- there is one multiplier for each row, and each is allowed
abbrev pub are_allowed : List PartRow → List ℤ → Bool
are_allowed [] [] = true
are_allowed [] (l ∷ ls) = false
are_allowed (row ∷ rows) [] = false
are_allowed (row ∷ rows) (l ∷ ls) = may_multiply row.kind l && are_allowed rows ls

-- the test passes for each number below n, for some number below n
abbrev pub each_below : ℕ → (ℕ → Bool) → Bool
each_below zero test = true
each_below (suc n) test = test n && each_below n test

abbrev pub some_below : ℕ → (ℕ → Bool) → Bool
some_below zero test = false
some_below (suc n) test = test n || some_below n test

-- the multipliers are a valid certificate of the system
abbrev pub is_valid : System → List ℤ → Bool
is_valid system ls =
    are_allowed system.rows ls
    && (each_below (columns system.shape) (λ k. int_eq (column ls system.rows k) (pos 0))
    && int_lt (column ls system.rows (columns system.shape)) (pos 0))

-- there is one multiplier for each row, and in some column, the constant's too, the absolute products sum above 2^127 - 1
abbrev pub is_heavy : System → List ℤ → Bool
is_heavy system ls = length ls == length system.rows && some_below (columns system.shape + 1) (λ k. nat_le (2 ^ 127) (column_weight ls system.rows k))

-- an entry is the defined one, with this verdict, and these lines follow it; or it is wrong; or its certificate is
-- too heavy to check
pub data Reading : Type 0 where
  Stands : Option (List ℤ) → List (List ℕ) → Reading
  Wrong : Reading
  Heavy : Reading

-- the rows of a kept system, a line each
abbrev pub read_rows : List PartRow → List (List ℕ) → Reading
read_rows [] lines = Stands None lines
read_rows (row ∷ rows) [] = Wrong
read_rows (row ∷ rows) (line ∷ lines) = if says line (row_numbers row) then read_rows rows lines else Wrong

-- a kept system: the line of its six numbers, then its rows
abbrev pub read_kept : System → List (List ℕ) → Reading
read_kept system [] = Wrong
read_kept system (line ∷ lines) = if says line (header_numbers system) then read_rows system.rows lines else Wrong

-- the multipliers of a dropped system
abbrev pub judged : System → Option (List ℤ) → List (List ℕ) → Reading
judged system None lines = Wrong
judged system (Some ls) lines = if is_heavy system ls then Heavy else (if is_valid system ls then Stands (Some ls) lines else Wrong)

-- a dropped system: the line of its multipliers
abbrev pub read_dropped : System → List (List ℕ) → Reading
read_dropped system [] = Wrong
read_dropped system (line ∷ lines) = judged system (certificate_read line) lines

-- an entry: its eight words and its verdict, and what the verdict calls for
abbrev pub read_entry : Dep → System → List (List ℕ) → Reading
read_entry e system [] = Wrong
read_entry e system (line ∷ lines) =
    if are_same (words line) (entry_words e ++ codes "kept" ∷ []) then read_kept system lines
    else (if are_same (words line) (entry_words e ++ codes "dropped" ∷ []) then read_dropped system lines else Wrong)

-- what the code says of a reading; where the entry is the defined one, the lines behind it are left
abbrev pub IsFound : Reading → Finding → List (List ℕ) → Type 0
IsFound (Stands None lines) finding.Kept left = left ≡ lines
IsFound (Stands (Some ls) lines) finding.Dropped left = left ≡ lines
IsFound Wrong finding.Wrong left = Unit {0}
IsFound Heavy finding.Heavy left = Unit {0}
IsFound reading found left = ⊥

-- the first line is that of a row, and was taken
pub record RowFollows (row : PartRow) (old new : List (List ℕ)) : Type 0 where
  pub line : List ℕ
  pub taken : old ≡ line ∷ new
  pub says : says line (row_numbers row) ≡ true

-- a row, and whether its line came first
abbrev pub TakesRow : PartRow → List (List ℕ) → Bool → List (List ℕ) → Type 0
TakesRow row old true new = RowFollows row old new
TakesRow row [] false new = Unit {0}
TakesRow row (line ∷ lines) false new = says line (row_numbers row) ≡ false
