use Rattle.std.proofs.Common.{◌∙◌, ap}
use Rattle.clan_walk.specs.Walk.{assigned}
use Rattle.region_trees.specs.Statements.{is_update, text_of}
use Rattle.region_trees.specs.Terms.{target_of, value_of}
use Rattle.region_extract.proofs.Reading.{on_ok}
use Rattle.region_extract.proofs.Walking.{walks_assignment, walks_skipped}
use Rattle.region_extract.proofs.walks.walk_assign.Goals as goal

pub returns-then-not-is_open : goal.returns-then-not-is_open
returns-then-not-is_open c =
    let a = c.args.assign.now in
    let source = c.args.source.now in
    walks_skipped (text_of source a.body) (target_of source a.target) (is_update a.sign) (value_of source a.value) _ _ c.skip_assignment.ensures

pub returns : goal.returns
returns c =
    let a = c.args.assign.now in
    let source = c.args.source.now in
    on_ok c.assign.result
    (λ p n is. p ∙ ap (λ text. assigned text c.add_target.new.place) (c.bytes.ensures ∙ c.in_ok-text.ensures)
    ∙ walks_assignment (text_of source a.body) (target_of source a.target) (is_update a.sign) (value_of source a.value) _ c.read_updated.new.place c.read_value.new.place
    c.add_target.new.place c.in_ok-read_updated.ensures c.in_ok-read_value.ensures c.in_ok-add_target.ensures n is)
    c.assign.ensures
