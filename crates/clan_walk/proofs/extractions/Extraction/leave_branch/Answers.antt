use Rattle.std.proofs.Common.{◌∙◌, ap, map}
use Rattle.clan_rows.specs.Contents.{said}
use Rattle.clan_walk.specs.Walk.{State, left_branch}
use Rattle.clan_walk.specs.contracts.extractions.Extraction.{the_view}
use Rattle.clan_walk.proofs.Placed.{popped_is, without_map}
use Rattle.clan_walk.proofs.extractions.Extraction.leave_branch.Goals as goal

pub returns : goal.returns
returns c =
    let old : State = the_view c.self.inside in
    ap (λ layers. record old { layers = layers }) (ap (map said) (popped_is c.pop.result c.self.inside.layers c.pop.new.self c.pop.ensures) ∙ without_map said c.self.inside.layers)
    ∙ ap left_branch c.self.view_is
