use Rattle.scop_core.proofs.Arrays.{next_array}
use Rattle.scop_core.proofs.array_tables.filled.Goals as goal

pub push_copy-requires : goal.push_copy-requires
push_copy-requires c =
    next_array c.args.arrays.now c.loop-array.made c.loop-array.array-index c.array-item.result c.loop-array-test.true c.array-item.is c.loop-array.invariant c.requires
