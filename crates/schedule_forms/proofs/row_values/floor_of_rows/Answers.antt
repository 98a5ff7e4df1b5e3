use Rattle.schedule_forms.proofs.SolvedShapes.{pair_fits}
use Rattle.schedule_forms.proofs.row_values.floor_of_rows.Goals as goal

pub returns-clause-pair : goal.returns-clause-pair
returns-clause-pair c =
    pair_fits c.args.part.now c.args.k c.args.low.now c.args.high.now c.in_ok-value.value c.size_of_floor-size.result c.constant_of-constant.result
    c.requires.low c.requires.high c.in_ok-value.ensures.value c.size_of_floor-size.ensures.value c.constant_of-constant.ensures.value
    c.requires.place c.requires.given c.requires.low_wide c.size_of_floor-size.ensures.range c.constant_of-constant.ensures.range
