use Rattle.std.proofs.Common.{arith}
use Rattle.std.specs.Prelude.{ℕ, ℤ, List, ◌<◌, ◌^◌, unsigned_abs}
use Rattle.scop_core.proofs.HeldPieces.{one_more, all_before}
use Rattle.scop_core.proofs.held.arrays_are_small.Goals as goal

pub loop-array-preserved : goal.loop-array-preserved
loop-array-preserved c = one_more (λ (array : ℤ × List ℕ). unsigned_abs array.0 < 2 ^ 127) c.args.arrays.now c.loop-array.array-index c.array-item.result (omega arith) c.array-item.is c.value-identifier.ensures.range c.loop-array.invariant

pub returns : goal.returns
returns c = all_before (λ (array : ℤ × List ℕ). unsigned_abs array.0 < 2 ^ 127) c.args.arrays.now c.loop-array.array-index c.loop-array-test.false c.loop-array.invariant
