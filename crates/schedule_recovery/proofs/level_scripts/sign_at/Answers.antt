use Rattle.std.proofs.Common.{sym, ap, ◌∙◌}
use Rattle.chlore_recover.specs.Triangles.{last_value}
use Rattle.schedule_recovery.proofs.Endings.{ends_past, ends_here, ends_there}
use Rattle.schedule_recovery.proofs.level_scripts.sign_at.Goals as goal

pub returns-then-k-levels : goal.returns-then-k-levels
returns-then-k-levels c = sym (ends_past c.args.place c.own_place_of-k.result c.args.levels.now c.args.places.now c.requires.places c.own_place_of-k.ensures c.if-k-levels.true).1

pub value_ending_at-requires : goal.value_ending_at-requires
value_ending_at-requires c =
    ends_there c.args.place c.own_place_of-k.result c.args.levels.now c.args.places.now c.index-levels-k.result c.iterators.result.now c.requires.places c.own_place_of-k.ensures c.if-k-levels.false c.index-levels-k.is c.iterators.ensures

pub returns : goal.returns
returns c =
    c.value_ending_at.ensures ∙ (ap last_value c.iterators.ensures
    ∙ sym (ends_here c.args.place c.own_place_of-k.result c.args.levels.now c.args.places.now c.index-levels-k.result c.requires.places c.own_place_of-k.ensures c.if-k-levels.false c.index-levels-k.is).1)
