-- What is true of every Scop.
use Rattle.std.specs.Prelude.{◌≡◌, All, None}
use Rattle.scop_data.specs.declared.raw_pieces.ScopPieces.{ScopPieces}
pub use Rattle.scop_data.specs.SolvedData.{HasRelations}
use Rattle.scop_data.specs.ScopData.{ScopData}
use Rattle.scop_core.specs.Assembly.{refusal_of, scop_of}
use Rattle.scop_core.specs.Held.{IsHeld}
use Rattle.scop_core.specs.Printable.{IsPrintable}

-- the SCoP of printable pieces that have no refusal, and are such as types hold
pub record IsAssembled (scop : ScopData) : Type 0 where
  pub pieces : ScopPieces
  pub printable : IsPrintable pieces
  pub accepted : refusal_of pieces ≡ None
  pub held : IsHeld pieces
  pub is_theirs : scop ≡ scop_of pieces

-- a SCoP that every call takes
pub record IsValid (scop : ScopData) : Type 0 where
  pub statements : All (HasRelations scop.context.shape.parameters) scop.statements
  pub assembled : IsAssembled scop
