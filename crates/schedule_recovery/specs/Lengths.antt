-- What is known where the search for a script ends early, and what it begins with.
use Rattle.std.specs.Prelude.{◌≡◌, ◌<◌, ℕ, true, List, length}
use Rattle.suite_base.specs.Limits.{max_commands}
use Rattle.suite_base.specs.declared.refusals.Fail.{Fail}
use Rattle.suite_base.specs.declared.refusals.Fail.TheVariants.{Memory, Refused}
use Rattle.suite_base.specs.declared.refusals.Refusal.TheVariants.{Limit}
use Rattle.suite_base.specs.declared.refusals.Which.TheVariants.{Commands}
use Rattle.clay_script.specs.declared.commands.Command.{Command}
use Rattle.scop_data.specs.declared.affines.Affine.{Affine}
use Rattle.scop_core.specs.ScopData.{ScopData}
use Rattle.chlore_recover.specs.Triangles.{AreLong}
use Rattle.chlore_recover.specs.Recoverable.{rows_of, ends_apart}
use Rattle.chlore_recover.specs.Strategy.{levels_in}

-- memory was wanting, or these commands are more than a script may have
abbrev pub IsTooLong : List Command → Fail → Type 0
IsTooLong commands Memory = Unit {0}
IsTooLong commands (Refused refusal) = (refusal ≡ Limit Commands 0) × (max_commands < length commands)

-- levels that can be recovered: as many as their rows are long, and they end apart
pub record EndApart (levels : List Affine) : Type 0 where
  pub long : AreLong (length levels) (rows_of levels)
  pub apart : ends_apart (length levels) (rows_of levels) ≡ true

-- the levels of each statement are such
abbrev pub AllEndApart : ScopData → Type 0
AllEndApart T = (k : ℕ) → EndApart (levels_in T k)
