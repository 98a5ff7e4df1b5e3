-- The region of a text: what stands between the first `scop` line and the first `endscop` line after it.
use Rattle.std.specs.Prelude.{ℕ, Bool, ◌+◌, if◌then◌else◌, List, [], ◌∷◌, length, Option, Some, None, Result, Ok, Err}
use Rattle.suite_base.specs.Lines.{lines}
use Rattle.c_lexer.specs.declared.regions.Span.{Span}
use Rattle.c_lexer.specs.declared.regions.RegionFail.{RegionFail}
use Rattle.c_lexer.specs.declared.regions.RegionFail.TheVariants.{NoRegion, OpenRegion, SecondRegion}
use Rattle.c_lexer.specs.declared.regions.Standing as code
use Rattle.c_lexer.specs.Pragmas.{is_scop_line, is_endscop_line}

-- where a line stands among others
pub record Standing : Type 0 where
  -- the lines before it
  pub lines_before : ℕ
  -- the bytes before it, each line counted with its newline
  pub at : ℕ
  -- the same with its own bytes
  pub past : ℕ
  -- the lines after it
  pub rest : List (List ℕ)

-- what the code's answer stands for
abbrev pub seen : code.Standing → Standing
seen s = record { lines_before = s.lines_before; at = s.at; past = s.past; rest = lines s.rest }

-- the same with one line more in front
abbrev pub behind : List ℕ → Option Standing → Option Standing
behind line None = None
behind line (Some s) = Some (record { lines_before = 1 + s.lines_before; at = length line + 1 + s.at; past = length line + 1 + s.past; rest = s.rest })

-- the first line that passes a test
abbrev pub first_line : (List ℕ → Bool) → List (List ℕ) → Option Standing
first_line passes [] = None
first_line passes (line ∷ more) =
    if passes line then Some (record { lines_before = 0; at = 0; past = length line + 1; rest = more }) else behind line (first_line passes more)

-- what is told by the first `scop` line, the first `endscop` line after it, and the next `scop` line after it
abbrev pub region_between : Standing → Option Standing → Option Standing → Result Span RegionFail
region_between scop None second = Err (OpenRegion (scop.lines_before + 1))
region_between scop (Some endscop) (Some second) = Err (SecondRegion (scop.lines_before + second.lines_before + 2))
region_between scop (Some endscop) None =
    Ok (record { from = scop.past; to = scop.past + endscop.at; first = record { line = scop.lines_before + 2; column = 1 } })

abbrev pub region_from : Option Standing → Result Span RegionFail
region_from None = Err NoRegion
region_from (Some scop) = region_between scop (first_line is_endscop_line scop.rest) (first_line is_scop_line scop.rest)

-- the region of a text, or why it has none
abbrev pub region_of : List ℕ → Result Span RegionFail
region_of bytes = region_from (first_line is_scop_line (lines bytes))
