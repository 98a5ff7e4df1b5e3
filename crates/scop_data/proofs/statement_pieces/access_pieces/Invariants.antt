use Rattle.std.proofs.Common.{◌≡◌, map, take}
use Rattle.scop_data.specs.Pieces.{access_piece}
use Rattle.scop_data.proofs.statement_pieces.access_pieces.Given as goal

abbrev pub invariant-loop-access : goal.invariant-loop-access
invariant-loop-access l = l.made ≡ map (access_piece l.iterators l.parameters) (take l.access-index l.accesses)
