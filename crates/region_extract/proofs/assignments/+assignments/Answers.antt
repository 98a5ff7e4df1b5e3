use Rattle.std.proofs.Common.{◌∙◌, ap}
use Rattle.region_trees.specs.Statements.{branch_of, loop_of, statements_of}
use Rattle.region_extract.specs.Walks.{has_assignment, have_assignment}
use Rattle.region_extract.proofs.Assigning as lemma
use Rattle.region_extract.proofs.assignments.+assignments.Goals as goal

pub has_assignment-returns-in-For : goal.has_assignment-returns-in-For
has_assignment-returns-in-For t c source =
    c.in_loop.ensures source ∙ ap (λ x. has_assignment (loop_of source x)) c.get.ensures ∙ lemma.of_for c.args.node.now c.in-For.inner source c.in-For.is

pub has_assignment-returns-in-If : goal.has_assignment-returns-in-If
has_assignment-returns-in-If t c source =
    c.in_branch.ensures source ∙ ap (λ x. has_assignment (branch_of source x)) c.get-in-If.ensures ∙ lemma.of_if c.args.node.now c.in-If.inner source c.in-If.is

pub has_assignment-returns-in-Block : goal.has_assignment-returns-in-Block
has_assignment-returns-in-Block t c source =
    c.have_assignment.ensures source ∙ ap (λ xs. have_assignment (statements_of source xs)) c.as_slice.ensures
    ∙ lemma.of_block c.args.node.now c.in-Block.nodes source c.in-Block.is

pub has_assignment-returns-in-Assign : goal.has_assignment-returns-in-Assign
has_assignment-returns-in-Assign t c source = lemma.of_assign c.args.node.now _ source c.in-Assign.is

pub has_assignment-returns-in-Empty : goal.has_assignment-returns-in-Empty
has_assignment-returns-in-Empty t c source = lemma.of_empty c.args.node.now source c.in-Empty.is

pub in_loop-returns : goal.in_loop-returns
in_loop-returns t c source = c.has_assignment.ensures source ∙ lemma.in_loop c.args.whole.now source

pub in_branch-returns-then-has_assignment : goal.in_branch-returns-then-has_assignment
in_branch-returns-then-has_assignment t c source = lemma.in_then c.args.branch.now source (c.if-has_assignment.ensures source)

pub in_branch-returns-in-None : goal.in_branch-returns-in-None
in_branch-returns-in-None t c source = lemma.in_none c.args.branch.now source (c.if-has_assignment.ensures source) c.in-None.is

pub in_branch-returns-in-Some : goal.in_branch-returns-in-Some
in_branch-returns-in-Some t c source =
    c.has_assignment-in-Some.ensures source ∙ lemma.in_other c.args.branch.now c.in-Some.other source (c.if-has_assignment.ensures source) c.in-Some.is

pub have_assignment-loop-node-preserved : goal.have_assignment-loop-node-preserved
have_assignment-loop-node-preserved t c =
    lemma.none_there c.args.nodes.now c.loop-node.node-index c.node-item.result c.loop-node-test.true c.node-item.is c.loop-node.invariant c.if-has_assignment.ensures

pub have_assignment-returns-then-has_assignment : goal.have_assignment-returns-then-has_assignment
have_assignment-returns-then-has_assignment t c =
    lemma.some_there c.args.nodes.now c.loop-node.node-index c.node-item.result c.loop-node-test.true c.node-item.is c.loop-node.invariant c.if-has_assignment.ensures

pub have_assignment-returns : goal.have_assignment-returns
have_assignment-returns t c = lemma.none_at_all c.args.nodes.now c.loop-node.node-index c.loop-node-test.false c.loop-node.invariant
