use Rattle.std.proofs.Common.{[], ◌∷◌}
use Rattle.std.specs.Prelude.{false}
use Rattle.region_names.specs.Walks.{left_name, subscript_names, value_names, assign_names}
use Rattle.region_names.proofs.Telling.{told_then, last_told}
use Rattle.region_names.proofs.NodeNames.{assign_names_are}
use Rattle.region_names.proofs.node_names.tell_assign.Goals as goal

pub returns : goal.returns
returns c =
    last_told c.tell_value.result c.args.register.now c.tell_subscripts.new.register c.tell_value.new.register
    (left_name c.args.source.now c.args.assign.now.target ∷ subscript_names c.args.source.now c.args.scope.now c.args.assign.now.target)
    (value_names c.args.source.now c.args.scope.now false c.args.assign.now.value) (assign_names c.args.source.now c.args.scope.now c.args.assign.now)
    (told_then c.args.register.now c.tell_left.new.register c.tell_subscripts.new.register (left_name c.args.source.now c.args.assign.now.target ∷ [])
    (subscript_names c.args.source.now c.args.scope.now c.args.assign.now.target) c.in_ok-tell_left.ensures c.in_ok-tell_subscripts.ensures)
    c.tell_value.ensures (assign_names_are c.args.source.now c.args.scope.now c.args.assign.now)
