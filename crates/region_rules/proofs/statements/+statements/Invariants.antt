use Rattle.std.proofs.Common.{◌≡◌, None, drop}
use Rattle.region_rules.proofs.Faults.{faults_from}
use Rattle.region_rules.proofs.StatementFaults.{node_fault}
use Rattle.region_rules.proofs.statements.+statements.Given as goal

abbrev pub invariant-nodes_fault-loop-node : goal.invariant-nodes_fault-loop-node
invariant-nodes_fault-loop-node l = faults_from (node_fault l.source) l.fault (drop l.node-index l.nodes) ≡ faults_from (node_fault l.source) None l.nodes
