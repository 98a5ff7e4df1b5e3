-- Which lines of a text its region is: those between its first `scop` line and the first `endscop` line after it.
use Rattle.std.specs.Prelude.{◌≡◌, ◌↔◌, ℕ, ◌+◌, Bool, true, false, List, [], ◌∷◌, ◌++◌, length, Result, Ok, Err}
use Rattle.std.specs.List.{list_any}
use Rattle.suite_base.specs.Lines.{lines}
use Rattle.c_lexer.specs.declared.regions.Span.{Span}
use Rattle.c_lexer.specs.declared.regions.RegionFail.{RegionFail}
use Rattle.c_lexer.specs.declared.regions.RegionFail.TheVariants.{NoRegion, OpenRegion, SecondRegion}
use Rattle.c_lexer.specs.Pragmas.{is_scop_line, is_endscop_line}
use Rattle.c_lexer.specs.Readings.{slice}
use Rattle.c_lexer.specs.Regions.{region_of}

-- these lines as a text, with a newline behind each
abbrev pub with_newlines : List (List ℕ) → List ℕ
with_newlines [] = []
with_newlines (line ∷ more) = line ++ 10 ∷ with_newlines more

-- of all these lines, `line` is the first that passes a test: it stands between the lines `before` and `after`
pub record IsFirst (passes : List ℕ → Bool) (all before : List (List ℕ)) (line : List ℕ) (after : List (List ℕ)) : Type 0 where
  pub cut : all ≡ before ++ line ∷ after
  pub passed : passes line ≡ true
  pub none_before : list_any passes before ≡ false

-- The lines `inside` stand between the first `scop` line of a text and the first `endscop` line after it, no other `scop` line follows,
-- and the bytes of the span are these lines. The first of them comes right after the `scop` line, which is line `length before + 1`.
pub record HasRegion (bytes : List ℕ) (span : Span) : Type 0 where
  pub before : List (List ℕ)
  pub scop : List ℕ
  pub after_scop : List (List ℕ)
  pub inside : List (List ℕ)
  pub endscop : List ℕ
  pub after_endscop : List (List ℕ)
  pub opens : IsFirst is_scop_line (lines bytes) before scop after_scop
  pub closes : IsFirst is_endscop_line after_scop inside endscop after_endscop
  pub alone : list_any is_scop_line after_scop ≡ false
  pub from : span.from ≡ length (with_newlines (before ++ scop ∷ []))
  pub to : span.to ≡ span.from + length (with_newlines inside)
  pub has : slice bytes span.from span.to ≡ with_newlines inside
  pub first : span.first ≡ record { line = length before + 2; column = 1 }

-- the first `scop` line, with this number, has no `endscop` line after it
pub record IsOpen (bytes : List ℕ) (number : ℕ) : Type 0 where
  pub before : List (List ℕ)
  pub scop : List ℕ
  pub after_scop : List (List ℕ)
  pub opens : IsFirst is_scop_line (lines bytes) before scop after_scop
  pub unclosed : list_any is_endscop_line after_scop ≡ false
  pub number_is : number ≡ length before + 1

-- the first `scop` line has an `endscop` line after it, and the next `scop` line after it has this number
pub record HasSecond (bytes : List ℕ) (number : ℕ) : Type 0 where
  pub before : List (List ℕ)
  pub scop : List ℕ
  pub after_scop : List (List ℕ)
  pub between : List (List ℕ)
  pub second : List ℕ
  pub after_second : List (List ℕ)
  pub opens : IsFirst is_scop_line (lines bytes) before scop after_scop
  pub closed : list_any is_endscop_line after_scop ≡ true
  pub again : IsFirst is_scop_line after_scop between second after_second
  pub number_is : number ≡ length (before ++ scop ∷ between) + 1

-- what an answer says of the lines of a text
abbrev pub TellsLines : List ℕ → Result Span RegionFail → Type 0
TellsLines bytes (Ok span) = HasRegion bytes span
TellsLines bytes (Err NoRegion) = list_any is_scop_line (lines bytes) ≡ false
TellsLines bytes (Err (OpenRegion number)) = IsOpen bytes number
TellsLines bytes (Err (SecondRegion number)) = HasSecond bytes number

-- `region_of` gives an answer exactly if what the answer says of the lines is so
abbrev pub RegionsStandBetweenPragmas : Type 0
RegionsStandBetweenPragmas = (bytes : List ℕ) (answer : Result Span RegionFail) → (region_of bytes ≡ answer) ↔ TellsLines bytes answer
