use Rattle.std.proofs.Common.{false, sym, subst}
use Rattle.c_parser.specs.declared.tree.Branch.{out-Branch}
use Rattle.region_trees.specs.Statements.{branch_of, loop_of, statement_of, statements_of}
use Rattle.region_trees.specs.Terms.{value_of}
use Rattle.region_extract.specs.Walks.{EntersBranch, Walks, WalksAll}
use Rattle.region_extract.proofs.Reading.{on_ok}
use Rattle.region_extract.proofs.Walking.{assign_walked, block_walked, both_walked, empty_walked, for_walked, if_walked, loop_walked, statement_walked, statements_walked, then_walked}
use Rattle.region_extract.proofs.walks.+walk.Goals as goal

pub walk_nodes-loop-node-preserved : goal.walk_nodes-loop-node-preserved
walk_nodes-loop-node-preserved t c =
    statement_walked c.args.source.now c.args.nodes.now _ c.loop-node.node-index c.node-item.result _ _ c.loop-node-test.true c.node-item.is c.loop-node.invariant c.in_ok-walk_node.ensures

pub walk_nodes-returns : goal.walk_nodes-returns
walk_nodes-returns t c = statements_walked c.args.source.now c.args.nodes.now _ c.loop-node.node-index _ c.loop-node-test.false c.loop-node.invariant

pub walk_node-returns-in-For : goal.walk_node-returns-in-For
walk_node-returns-in-For t c =
    on_ok c.walk_loop.result
    (λ p. for_walked c.args.source.now c.args.node.now c.in-For.inner c.args.place.now c.walk_loop.new.place c.in-For.is
    (subst (λ x. Walks (loop_of c.args.source.now x) c.args.place.now c.walk_loop.new.place) c.get.ensures p))
    c.walk_loop.ensures

pub walk_node-returns-in-If : goal.walk_node-returns-in-If
walk_node-returns-in-If t c =
    on_ok c.walk_branch.result
    (λ p. if_walked c.args.source.now c.args.node.now c.in-If.inner c.args.place.now c.walk_branch.new.place c.in-If.is
    (subst (λ x. Walks (branch_of c.args.source.now x) c.args.place.now c.walk_branch.new.place) c.get-in-If.ensures p))
    c.walk_branch.ensures

pub walk_node-returns-in-Block : goal.walk_node-returns-in-Block
walk_node-returns-in-Block t c =
    on_ok c.walk_nodes.result
    (λ p. block_walked c.args.source.now c.args.node.now c.in-Block.nodes c.args.place.now c.walk_nodes.new.place c.in-Block.is
    (subst (λ xs. WalksAll (statements_of c.args.source.now xs) c.args.place.now c.walk_nodes.new.place) c.as_slice.ensures p))
    c.walk_nodes.ensures

pub walk_node-returns-in-Assign : goal.walk_node-returns-in-Assign
walk_node-returns-in-Assign t c =
    on_ok c.walk_assign.result (λ p. assign_walked c.args.source.now c.args.node.now c.in-Assign.assign c.args.place.now c.walk_assign.new.place c.in-Assign.is p) c.walk_assign.ensures

pub walk_node-returns-in-Empty : goal.walk_node-returns-in-Empty
walk_node-returns-in-Empty t c = empty_walked c.args.source.now c.args.node.now _ c.in-Empty.is

pub walk_loop-returns : goal.walk_loop-returns
walk_loop-returns t c =
    subst (λ s. Walks (loop_of c.args.source.now c.args.whole.now) c.args.place.now s) (sym c.leave_loop.ensures)
    (loop_walked c.args.source.now c.args.whole.now _ c.enter_loop.new.place _ c.in_ok-enter_loop.ensures c.in_ok-walk_node.ensures)

pub walk_branch-returns-in-None : goal.walk_branch-returns-in-None
walk_branch-returns-in-None t c =
    subst (λ s. Walks (branch_of c.args.source.now c.args.branch.now) c.args.place.now s) (sym c.leave_branch.ensures)
    (then_walked c.args.source.now c.args.branch.now c.args.place.now c.enter_branch.new.place c.walk_node.new.place c.in-None.is c.in_ok-enter_branch.ensures
    c.in_ok-walk_node.ensures)

pub walk_branch-returns-in_ok-walk_node-in-Some : goal.walk_branch-returns-in_ok-walk_node-in-Some
walk_branch-returns-in_ok-walk_node-in-Some t c =
    let source = c.args.source.now in
    let y = out-Branch c.args.branch.now in
    let entered =
    subst (λ s. EntersBranch false (value_of source y.condition).term (statement_of source c.in-Some.other) s c.enter_branch-in-Some.new.place) c.leave_branch.ensures
    c.in_ok-enter_branch-in-Some.ensures in
    subst (λ s. Walks (branch_of source c.args.branch.now) c.args.place.now s) (sym c.leave_branch-in-Some.ensures)
    (both_walked source c.args.branch.now c.in-Some.other c.args.place.now c.enter_branch.new.place c.walk_node.new.place c.enter_branch-in-Some.new.place
    c.walk_node-in-Some.new.place c.in-Some.is c.in_ok-enter_branch.ensures c.in_ok-walk_node.ensures entered c.in_ok-walk_node-in-Some.ensures)
