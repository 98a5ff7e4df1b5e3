-- Words of the contracts on headers.
use Rattle.std.specs.Prelude.{◌≡◌, ℕ, pos, ◌+◌, ◌≤◌, ◌==◌, true, List, Result, Ok, Err}
use Rattle.suite_base.specs.Limits.{max_rows, max_dimensions}
use Rattle.suite_base.specs.declared.refusals.Fail.{Fail}
use Rattle.suite_base.specs.declared.refusals.Fail.TheVariants as fail
use Rattle.relation_core.specs.Systems.{HasLimits, columns}
use Rattle.scop_reader.specs.declared.roles.Role.{Role}
use Rattle.scop_reader.specs.declared.roles.Role.TheVariants.{Context, Domain, Scattering, Access}
use Rattle.scop_reader.specs.Lines.{Line, Word}
use Rattle.scop_reader.specs.Reading.{numbers_in, with_number, is_count}
use Rattle.scop_reader.specs.Rules.{Header}

-- a number was taken from the front of these words
abbrev pub TakesCount : Line → List Word → Result ℕ Fail → List Word → Type 0
TakesCount line old (Ok n) new = numbers_in line is_count old ≡ with_number (Ok (pos n)) (numbers_in line is_count new)
TakesCount line old (Err fail.Memory) new = Unit {0}
TakesCount line old (Err (fail.Refused refusal)) new = numbers_in line is_count old ≡ Err refusal

-- each number of a header is small, and its columns are those of its shape
pub record IsSmall (header : Header) : Type 0 where
  pub rows : header.rows ≤ max_rows
  pub limits : HasLimits header.shape
  pub columns_are : (header.columns == columns header.shape + 2) ≡ true

-- the numbers that a role asks for are small
abbrev pub IsSmallRole : Role → Type 0
IsSmallRole Context = Unit {0}
IsSmallRole (Domain parameters iterators) = Unit {0}
IsSmallRole (Scattering parameters iterators) = iterators ≤ max_dimensions
IsSmallRole (Access parameters iterators) = iterators ≤ max_dimensions
