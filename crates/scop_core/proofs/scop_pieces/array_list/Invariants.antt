use Rattle.std.proofs.Common.{◌≡◌, take}
use Rattle.scop_data.specs.ScopData.{arrays_of}
use Rattle.scop_core.proofs.scop_pieces.array_list.Given as goal

abbrev pub invariant-loop-k : goal.invariant-loop-k
invariant-loop-k l = l.made ≡ take l.k (arrays_of l.scop)
