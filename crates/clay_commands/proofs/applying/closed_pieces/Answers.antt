use Rattle.clay_commands.proofs.ClosedPieces.{closed_pieces_are}
use Rattle.clay_commands.proofs.applying.closed_pieces.Goals as goal

pub returns : goal.returns
returns c =
    closed_pieces_are c.args.scop.now c.args.leaves.now c.parameter_count-parameters.result c.in_ok-statements.statements c.pieces_with.result c.in_ok-statements.ensures
    c.parameter_count-parameters.ensures c.pieces_with.ensures
