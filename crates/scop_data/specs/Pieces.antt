-- The pieces that a SCoP is printed as.
use Rattle.std.specs.Prelude.{ℕ, List, [], ◌∷◌, map, length, Some}
use Rattle.relation_core.specs.Systems.{System}
use Rattle.scop_data.specs.declared.accesses.AccessKind.{AccessKind}
use Rattle.scop_data.specs.declared.accesses.Access.{Access}
use Rattle.scop_data.specs.declared.statements.Statement.{Statement}
use Rattle.scop_data.specs.declared.raw_pieces.RawStatement.{RawStatement}
use Rattle.scop_data.specs.declared.raw_pieces.ScopPieces.{ScopPieces}
use Rattle.scop_data.specs.ScopData.{ScopData}
use Rattle.scop_data.specs.SolvedRows.{schedule_part, access_part}

-- an access as a relation of one part
abbrev pub access_piece : ℕ → ℕ → Access → AccessKind × List System
access_piece iterators parameters access = (access.kind, access_part iterators parameters access ∷ [])

-- a statement as the pieces that it is printed as, with a body
abbrev pub statement_pieces : ℕ → Statement → RawStatement
statement_pieces parameters statement = record {
  domain = statement.domain;
  scattering = schedule_part (length statement.body.iterators) parameters statement.schedule ∷ [];
  accesses = map (access_piece (length statement.body.iterators) parameters) statement.accesses;
  body = Some statement.body;
  extensions = statement.extensions;
}

-- the pieces that a SCoP is printed as
abbrev pub pieces_of : ScopData → ScopPieces
pieces_of scop = record {
  language = scop.language;
  context = scop.context;
  parameters = scop.parameters;
  statements = map (statement_pieces scop.context.shape.parameters) scop.statements;
  arrays = scop.arrays;
  extensions = scop.extensions;
}
