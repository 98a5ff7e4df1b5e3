use Rattle.std.proofs.Common.{pos, ◌∷◌, [], refl}
use Rattle.chlore_recover.specs.Recoverable.{rows_of}
use Rattle.schedule_recovery.proofs.Endings.{ends_past, ends_here, ends_there, sign_here}
use Rattle.schedule_recovery.proofs.Skewing.{skews_of_none, skews_of_level}
use Rattle.schedule_recovery.proofs.level_scripts.push_skews_at.Goals as goal

pub returns-then-k-levels : goal.returns-then-k-levels
returns-then-k-levels c =
    skews_of_none (pos c.args.number ∷ []) c.args.place (rows_of c.args.levels.now) c.args.script.now
    (ends_past c.args.place c.own_place_of-k.result c.args.levels.now c.args.places.now c.requires.places c.own_place_of-k.ensures c.if-k-levels.true).0

pub value_ending_at-sign-requires : goal.value_ending_at-sign-requires
value_ending_at-sign-requires c =
    ends_there c.args.place c.own_place_of-k.result c.args.levels.now c.args.places.now c.index-levels-k.result c.iterators-row.result.now c.requires.places c.own_place_of-k.ensures c.if-k-levels.false c.index-levels-k.is
    c.iterators-row.ensures

pub push_row_skews-requires : goal.push_row_skews-requires
push_row_skews-requires c =
    sign_here c.args.levels.now c.own_place_of-k.result c.index-levels-k.result c.iterators-row.result.now c.value_ending_at-sign.result c.requires.signs c.if-k-levels.false c.index-levels-k.is c.iterators-row.ensures c.value_ending_at-sign.ensures

pub returns : goal.returns
returns c =
    skews_of_level (pos c.args.number ∷ []) c.args.place c.min-end.result c.value_ending_at-sign.result c.index-levels-k.result c.iterators-row.result.now _ (rows_of c.args.levels.now) c.args.script.now _
    (ends_here c.args.place c.own_place_of-k.result c.args.levels.now c.args.places.now c.index-levels-k.result c.requires.places c.own_place_of-k.ensures c.if-k-levels.false c.index-levels-k.is).0
    c.iterators-row.ensures c.value_ending_at-sign.ensures c.min-end.ensures refl c.in_ok-push_row_skews.ensures
