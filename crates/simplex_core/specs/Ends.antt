-- How a search over a tableau ends.
use Rattle.std.specs.Prelude.{ℕ, ◌<◌}
use Rattle.simplex_core.specs.declared.pivots.End.{End}
use Rattle.simplex_core.specs.declared.pivots.End.TheVariants.{Solved, Contradiction}

-- the row that an end names is one of these
abbrev pub IsAmong : ℕ → End → Type 0
IsAmong rows Solved = Unit {0}
IsAmong rows (Contradiction r) = r < rows
