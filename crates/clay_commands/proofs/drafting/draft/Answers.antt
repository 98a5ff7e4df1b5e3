use Rattle.std.proofs.Common.{◌<◌, ◌∙◌, length, rules}
use Rattle.clay_commands.proofs.Closings.{one_leaf_more}
use Rattle.clay_commands.proofs.drafting.draft.Goals as goal

pub loop-k-preserved : goal.loop-k-preserved
loop-k-preserved c =
    let statements : c.loop-k.k < length c.args.statements.now = search rules in
    let vectors : c.loop-k.k < length c.args.betas.now = search rules in
    c.in_ok-push_leaf.ensures
    ∙ one_leaf_more c.loop-k.k c.args.betas.now c.args.statements.now c.index-statements-k.result c.loop-k.leaves.items vectors statements c.index-statements-k.is c.loop-k.invariant
