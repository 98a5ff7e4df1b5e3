use Rattle.std.proofs.Common.{◌≡◌, take}
use Rattle.std.specs.List.{flat_map}
use Rattle.region_names.specs.Registers.{after}
use Rattle.region_names.specs.Walks.{node_names}
use Rattle.region_names.proofs.node_names.+nodes.Given as goal

abbrev pub invariant-tell_nodes-loop-item : goal.invariant-tell_nodes-loop-item
invariant-tell_nodes-loop-item l = l.register ≡ after l.initial.register (flat_map (node_names l.source l.scope) (take l.item-index l.nodes))
