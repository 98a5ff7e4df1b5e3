use Rattle.scop_core.specs.Held.{IsFormed}
use Rattle.scop_core.proofs.HeldPieces.{AllBefore}
use Rattle.scop_core.proofs.held.parts_are_formed.Given as goal

abbrev pub invariant-loop-part : goal.invariant-loop-part
invariant-loop-part l = AllBefore (IsFormed) l.parts l.part-index
