use Rattle.region_extract.proofs.Walking.{WalksRest}
use Rattle.region_extract.proofs.walks.+walk.Given as goal

abbrev pub invariant-walk_nodes-loop-node : goal.invariant-walk_nodes-loop-node
invariant-walk_nodes-loop-node l = WalksRest l.source l.nodes l.initial.place l.node-index l.place
