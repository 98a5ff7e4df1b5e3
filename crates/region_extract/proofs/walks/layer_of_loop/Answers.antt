use Rattle.clan_rows.specs.Contents.{said}
use Rattle.region_forms.proofs.Trees.{ok_map}
use Rattle.region_extract.proofs.Entering.{loop_here, unasked}
use Rattle.region_extract.proofs.walks.layer_of_loop.Goals as goal

pub returns-then-not-asks_layer : goal.returns-then-not-asks_layer
returns-then-not-asks_layer c asked = unasked _ (c.if-not-asks_layer.ensures c.args.source.now) asked

pub returns : goal.returns
returns c =
    let scope = c.scope_at-scope in
    ok_map c.loop_layer.result _ _
    (λ l p asked. loop_here scope.result c.args.source.now c.args.place.now (said l) scope.ensures.source scope.ensures.parameters scope.ensures.loops c.args.head.now p)
    c.loop_layer.ensures
