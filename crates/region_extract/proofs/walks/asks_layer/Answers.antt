use Rattle.std.proofs.Common.{◌∙◌, ap}
use Rattle.std.specs.Prelude.{◌&&◌}
use Rattle.region_trees.specs.Statements.{statement_of}
use Rattle.region_extract.specs.Walks.{has_assignment}
use Rattle.region_extract.proofs.walks.asks_layer.Goals as goal

pub returns-then-is_open : goal.returns-then-is_open
returns-then-is_open c source = c.has_assignment.ensures source ∙ ap (λ b. b && has_assignment (statement_of source c.args.node.now)) c.if-is_open.ensures
