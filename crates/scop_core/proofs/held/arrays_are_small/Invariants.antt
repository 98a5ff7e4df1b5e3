use Rattle.std.proofs.Common.{ℕ, ℤ, List, ◌<◌, ◌^◌, unsigned_abs}
use Rattle.scop_core.proofs.HeldPieces.{AllBefore}
use Rattle.scop_core.proofs.held.arrays_are_small.Given as goal

abbrev pub invariant-loop-array : goal.invariant-loop-array
invariant-loop-array l = AllBefore (λ (array : ℤ × List ℕ). unsigned_abs array.0 < 2 ^ 127) l.arrays l.array-index
