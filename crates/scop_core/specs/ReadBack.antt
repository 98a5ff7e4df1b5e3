-- The pieces that a SCoP is printed as give that SCoP.
use Rattle.std.specs.Prelude.{◌≡◌, All, None}
use Rattle.scop_data.specs.declared.raw_pieces.ScopPieces.{ScopPieces}
use Rattle.scop_data.specs.ScopData.{ScopData}
use Rattle.scop_core.specs.Assembly.{refusal_of, scop_of}
use Rattle.scop_core.specs.Printable.{IsPrintable}
use Rattle.scop_core.specs.Validity.{IsValid}
pub use Rattle.scop_data.specs.SolvedData.{UsesEarlier, AreSolvedFloors, IsSolvedSchedule, IsSolvedAccess, IsSolvedStatement}
pub use Rattle.scop_data.specs.Pieces.{access_piece, statement_pieces, pieces_of}

-- the pieces that a SCoP is printed as can be printed, and give that SCoP without a refusal
pub record ReadBack (scop : ScopData) : Type 0 where
  pub printable : IsPrintable (pieces_of scop)
  pub unrefused : refusal_of (pieces_of scop) ≡ None
  pub same : scop_of (pieces_of scop) ≡ scop

-- the statements of a SCoP that pieces give without a refusal are in solved form
abbrev pub StatementsAreSolved : Type 0
StatementsAreSolved = (pieces : ScopPieces) (scop : ScopData) → refusal_of pieces ≡ None → scop ≡ scop_of pieces → IsValid scop
    → All (IsSolvedStatement scop.context.shape.parameters) scop.statements

-- a SCoP that printable pieces give without a refusal is what its own pieces give, and these can be printed
abbrev pub PiecesReadBack : Type 0
PiecesReadBack = (pieces : ScopPieces) (scop : ScopData) → IsPrintable pieces → refusal_of pieces ≡ None → scop ≡ scop_of pieces → IsValid scop → ReadBack scop
