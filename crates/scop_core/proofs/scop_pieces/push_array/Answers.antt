use Rattle.scop_data.specs.ScopData.{arrays_of}
use Rattle.scop_data.proofs.Taken.{push_found}
use Rattle.scop_core.proofs.scop_pieces.push_array.Goals as goal

pub returns : goal.returns
returns c =
    push_found (arrays_of c.args.scop.now) c.args.k (c.in-Some.array.0, c.in-Some.array.1.now) _ _ c.in-Some.ensures c.requires.behind c.in_ok-push_named-in-Some.ensures
