-- Pieces that types hold.
use Rattle.std.specs.Prelude.{◌^◌, ◌<◌, unsigned_abs, length, All, IfSome}
use Rattle.relation_core.specs.Systems.{System, IsWellFormed}
use Rattle.scop_data.specs.declared.raw_pieces.RawStatement.{RawStatement}
use Rattle.scop_data.specs.declared.raw_pieces.ScopPieces.{ScopPieces}

-- rows are as wide as the shape, entries are coefficients, no number of the shape is too large
abbrev pub IsFormed : System → Type 0
IsFormed part = IsWellFormed part.shape part.rows

-- the parts of a statement are well-formed, and its extensions can be counted
pub record StatementIsHeld (raw : RawStatement) : Type 0 where
  pub domain : All IsFormed raw.domain
  pub scattering : All IsFormed raw.scattering
  pub accesses : All (λ access. All IsFormed access.1) raw.accesses
  pub extensions : length raw.extensions < 2 ^ 64

-- the pieces are such as types hold: parts are well-formed, numbers are in range
pub record IsHeld (pieces : ScopPieces) : Type 0 where
  pub context : IsFormed pieces.context
  pub statements : All StatementIsHeld pieces.statements
  pub arrays : IfSome pieces.arrays (All (λ array. unsigned_abs array.0 < 2 ^ 127))
