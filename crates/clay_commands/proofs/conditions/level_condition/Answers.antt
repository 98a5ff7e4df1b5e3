use Rattle.clay_commands.proofs.SplitConditions.{split_condition}
use Rattle.clay_commands.proofs.conditions.level_condition.Goals as goal

pub returns-in-Iss : goal.returns-in-Iss
returns-in-Iss c =
    rw c.in-Iss.is (split_condition c.args.parameters c.args.i c.len-in-Iss.result c.len-in-Iss-2.result c.args.prefix.now c.args.leaves.now c.in-Iss.xs c.in-Iss.ns
    c.can_split.result c.level_first-in-Iss.result c.len-in-Iss.ensures.answer c.len-in-Iss-2.ensures.answer c.can_split.ensures c.level_first-in-Iss.ensures)
