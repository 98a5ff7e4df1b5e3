use Rattle.std.proofs.Common.{◌<◌, length, rules}
use Rattle.clay_commands.proofs.Joins.{one_joined}
use Rattle.clay_commands.proofs.vector_steps.join.Goals as goal

pub loop-k-preserved : goal.loop-k-preserved
loop-k-preserved c =
    let within : c.loop-k.k < length c.args.leaves.now.items = search rules in
    let vectors : c.loop-k.k < length c.args.betas.now = search rules in
    one_joined c.args.betas.now c.args.leaves.now.items c.loop-k.leaves.items c.loop-k.k c.index_mut.result.now c.set_vector.new.leaf c.loop-k.invariant vectors within
    c.index_mut.ensures.value c.in_ok-set_vector.ensures
