use Rattle.std.proofs.Common.{[], ◌∷◌, ◌++◌, refl, sym, ap, ◌∙◌, append_assoc}
use Rattle.std.specs.Prelude.{true}
use Rattle.c_parser.specs.declared.tree.Branch.{out-Branch}
use Rattle.c_parser.specs.declared.tree.Loop.{out-Loop}
use Rattle.region_names.specs.Registers.{after}
use Rattle.region_names.specs.Walks.{head_name, sum_names, value_names, assign_names, branch_names, loop_names, node_names, nodes_names}
use Rattle.region_names.proofs.Telling.{told_then, told_more, list_told, same_told, last_told}
use Rattle.region_names.proofs.NodeNames.{nodes_names_are, loop_parts, branch_alone, branch_and_other, for_names, if_names, block_names, assignment_names, empty_names}
use Rattle.region_names.proofs.node_names.+nodes.Goals as goal

pub tell_nodes-loop-item-preserved : goal.tell_nodes-loop-item-preserved
tell_nodes-loop-item-preserved t c =
    told_more (node_names c.args.source.now c.args.scope.now) _ _ _ _ c.loop-item.item-index c.item-item.result c.loop-item-test.true c.item-item.is
    c.loop-item.invariant c.in_ok-tell_node.ensures

pub tell_nodes-returns : goal.tell_nodes-returns
tell_nodes-returns t c =
    list_told (node_names c.args.source.now c.args.scope.now) c.args.register.now c.loop-item.register _ c.args.nodes.now c.args.nodes.now c.loop-item.item-index
    refl c.loop-item-test.false c.loop-item.invariant (nodes_names_are c.args.source.now c.args.scope.now c.args.nodes.now)

pub tell_branch-returns-in-None : goal.tell_branch-returns-in-None
tell_branch-returns-in-None t c =
    told_then c.args.register.now c.tell_value.new.register c.tell_node.new.register (value_names c.args.source.now c.args.scope.now true (out-Branch c.args.branch.now).condition)
    (node_names c.args.source.now c.args.scope.now (out-Branch c.args.branch.now).then) c.in_ok-tell_value.ensures c.in_ok-tell_node.ensures
    ∙ ap (after c.args.register.now) (sym (branch_alone c.args.source.now c.args.scope.now c.args.branch.now c.in-None.is))

pub tell_branch-returns-in-Some : goal.tell_branch-returns-in-Some
tell_branch-returns-in-Some t c =
    last_told c.tell_node-in-Some.result c.args.register.now c.tell_node.new.register c.tell_node-in-Some.new.register
    (value_names c.args.source.now c.args.scope.now true (out-Branch c.args.branch.now).condition ++ node_names c.args.source.now c.args.scope.now (out-Branch c.args.branch.now).then)
    (node_names c.args.source.now c.args.scope.now c.in-Some.other) (branch_names c.args.source.now c.args.scope.now c.args.branch.now)
    (told_then c.args.register.now c.tell_value.new.register c.tell_node.new.register (value_names c.args.source.now c.args.scope.now true (out-Branch c.args.branch.now).condition)
    (node_names c.args.source.now c.args.scope.now (out-Branch c.args.branch.now).then) c.in_ok-tell_value.ensures c.in_ok-tell_node.ensures)
    c.tell_node-in-Some.ensures
    (branch_and_other c.args.source.now c.args.scope.now c.args.branch.now c.in-Some.other c.in-Some.is
    ∙ sym (append_assoc (value_names c.args.source.now c.args.scope.now true (out-Branch c.args.branch.now).condition)
    (node_names c.args.source.now c.args.scope.now (out-Branch c.args.branch.now).then) (node_names c.args.source.now c.args.scope.now c.in-Some.other)))

pub tell_loop-returns : goal.tell_loop-returns
tell_loop-returns t c =
    last_told c.tell_node.result c.args.register.now c.tell_sum-2.new.register c.tell_node.new.register
    ((head_name c.args.source.now c.args.scope.now (out-Loop c.args.head.now).name ∷ sum_names c.args.source.now c.args.scope.now true (out-Loop c.args.head.now).start) ++ sum_names c.args.source.now c.args.scope.now true (out-Loop c.args.head.now).bound)
    (node_names c.args.source.now c.as_slice.result.now (out-Loop c.args.head.now).body) (loop_names c.args.source.now c.args.scope.now c.args.head.now)
    (told_then c.args.register.now c.tell_sum.new.register c.tell_sum-2.new.register
    (head_name c.args.source.now c.args.scope.now (out-Loop c.args.head.now).name ∷ sum_names c.args.source.now c.args.scope.now true (out-Loop c.args.head.now).start) (sum_names c.args.source.now c.args.scope.now true (out-Loop c.args.head.now).bound)
    (told_then c.args.register.now c.tell_loop_name.new.register c.tell_sum.new.register (head_name c.args.source.now c.args.scope.now (out-Loop c.args.head.now).name ∷ [])
    (sum_names c.args.source.now c.args.scope.now true (out-Loop c.args.head.now).start) c.in_ok-tell_loop_name.ensures c.in_ok-tell_sum.ensures)
    c.in_ok-tell_sum-2.ensures)
    c.tell_node.ensures (loop_parts c.args.source.now c.args.scope.now c.args.head.now c.as_slice.result.now (c.as_slice.ensures ∙ c.in_ok-inside.ensures))

pub tell_node-returns-in-For : goal.tell_node-returns-in-For
tell_node-returns-in-For t c =
    same_told c.tell_loop.result c.args.register.now c.tell_loop.new.register (loop_names c.args.source.now c.args.scope.now c.get.result.now) (node_names c.args.source.now c.args.scope.now c.args.node.now)
    (ap (loop_names c.args.source.now c.args.scope.now) c.get.ensures ∙ sym (for_names c.args.source.now c.args.scope.now c.args.node.now c.in-For.inner c.in-For.is)) c.tell_loop.ensures

pub tell_node-returns-in-If : goal.tell_node-returns-in-If
tell_node-returns-in-If t c =
    same_told c.tell_branch.result c.args.register.now c.tell_branch.new.register (branch_names c.args.source.now c.args.scope.now c.get-in-If.result.now) (node_names c.args.source.now c.args.scope.now c.args.node.now)
    (ap (branch_names c.args.source.now c.args.scope.now) c.get-in-If.ensures ∙ sym (if_names c.args.source.now c.args.scope.now c.args.node.now c.in-If.inner c.in-If.is)) c.tell_branch.ensures

pub tell_node-returns-in-Block : goal.tell_node-returns-in-Block
tell_node-returns-in-Block t c =
    same_told c.tell_nodes.result c.args.register.now c.tell_nodes.new.register (nodes_names c.args.source.now c.args.scope.now c.as_slice.result.now) (node_names c.args.source.now c.args.scope.now c.args.node.now)
    (ap (nodes_names c.args.source.now c.args.scope.now) c.as_slice.ensures ∙ sym (block_names c.args.source.now c.args.scope.now c.args.node.now c.in-Block.nodes c.in-Block.is)) c.tell_nodes.ensures

pub tell_node-returns-in-Assign : goal.tell_node-returns-in-Assign
tell_node-returns-in-Assign t c =
    same_told c.tell_assign.result c.args.register.now c.tell_assign.new.register (assign_names c.args.source.now c.args.scope.now c.in-Assign.assign) (node_names c.args.source.now c.args.scope.now c.args.node.now)
    (sym (assignment_names c.args.source.now c.args.scope.now c.args.node.now c.in-Assign.assign c.in-Assign.is)) c.tell_assign.ensures

pub tell_node-returns-in-Empty : goal.tell_node-returns-in-Empty
tell_node-returns-in-Empty t c = ap (after c.args.register.now) (sym (empty_names c.args.source.now c.args.scope.now c.args.node.now c.in-Empty.is))
