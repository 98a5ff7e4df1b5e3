use Rattle.region_extract.proofs.Assigning.{NoneBefore}
use Rattle.region_extract.proofs.assignments.+assignments.Given as goal

abbrev pub invariant-have_assignment-loop-node : goal.invariant-have_assignment-loop-node
invariant-have_assignment-loop-node l = NoneBefore l.nodes l.node-index
