use Rattle.scop_core.proofs.Arrays.{read_array, read_more}
use Rattle.scop_core.proofs.array_tables.copied.Goals as goal

pub push_copy-requires : goal.push_copy-requires
push_copy-requires c = read_array c.args.table.now c.loop-k.made c.loop-k.k (c.in-Some.array.0, c.in-Some.array.1.now) c.in-Some.ensures c.loop-k.invariant c.requires

pub loop-k-preserved : goal.loop-k-preserved
loop-k-preserved c =
    read_more c.args.table.now c.loop-k.made c.push_copy.new.self c.loop-k.k (c.in-Some.array.0, c.in-Some.array.1.now) c.in-Some.ensures c.loop-k.invariant c.in_ok-push_copy-in-Some.ensures
