use Rattle.std.proofs.Common.{arith}
use Rattle.std.proofs.lemmas.Grind.{common_steps}
use Rattle.region_rules.proofs.StatementFaults.{block_fault, by_nodes, by_loop, by_then, by_branch}
use Rattle.region_rules.proofs.statements.+statements.Goals as goal

pub loop_fault-returns : goal.loop_fault-returns
loop_fault-returns t c = by_loop c.args.source.now c.args.whole.now _ (grind (arith, common_steps))

pub branch_fault-returns-in-None : goal.branch_fault-returns-in-None
branch_fault-returns-in-None t c = by_then c.args.source.now c.args.branch.now _ (grind (arith, common_steps)) (grind (arith, common_steps))

pub branch_fault-returns-in-Some : goal.branch_fault-returns-in-Some
branch_fault-returns-in-Some t c = by_branch c.args.source.now c.args.branch.now _ (grind (arith, common_steps))

pub node_fault-returns-in-Block : goal.node_fault-returns-in-Block
node_fault-returns-in-Block t c = grind (arith, common_steps, block_fault)

pub nodes_fault-returns : goal.nodes_fault-returns
nodes_fault-returns t c = by_nodes c.args.source.now c.args.nodes.now _ (grind (arith, common_steps))
