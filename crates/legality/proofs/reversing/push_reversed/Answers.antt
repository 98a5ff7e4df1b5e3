use Rattle.std.proofs.Common.{arith, ◌<◌, ◌-◌, length}
use Rattle.legality.proofs.ReversedCounts.{source_count, target_count, source_place, target_place}
use Rattle.legality.proofs.reversing.push_reversed.Goals as goal

pub push_equal_levels-requires-clause-source_count : goal.push_equal_levels-requires-clause-source_count
push_equal_levels-requires-clause-source_count c =
    source_count c.args.w.now c.args.part.now.shape.parameters c.args.source.now c.args.target.now _ _ c.as_slice-sources.result.now
    c.count_common-common.result c.requires.fits c.count_common-common.ensures.answer c.as_slice.ensures c.as_slice-then-level-eq0.ensures c.as_slice-sources.ensures

pub push_equal_levels-requires-clause-target_count : goal.push_equal_levels-requires-clause-target_count
push_equal_levels-requires-clause-target_count c =
    target_count c.args.w.now c.args.part.now.shape.parameters c.args.source.now c.args.target.now _ _ c.as_slice-targets.result.now
    c.count_common-common.result c.requires.fits c.count_common-common.ensures.answer c.as_slice.ensures c.as_slice-then-level-eq0.ensures c.as_slice-targets.ensures

pub push_equal_levels-requires-else-level-eq0-clause-source_count : goal.push_equal_levels-requires-else-level-eq0-clause-source_count
push_equal_levels-requires-else-level-eq0-clause-source_count c =
    let below : c.args.level - 1 < length c.as_slice-sources.result.now
    = source_place c.args.w.now c.args.part.now.shape.parameters c.args.source.now c.args.target.now c.as_slice-sources.result.now c.args.level c.requires.fits c.requires.level c.if-level-eq0.false c.as_slice-sources.ensures in
    omega arith

pub push_equal_levels-requires-else-level-eq0-clause-target_count : goal.push_equal_levels-requires-else-level-eq0-clause-target_count
push_equal_levels-requires-else-level-eq0-clause-target_count c =
    let below : c.args.level - 1 < length c.as_slice-targets.result.now
    = target_place c.args.w.now c.args.part.now.shape.parameters c.args.source.now c.args.target.now c.as_slice-targets.result.now c.args.level c.requires.fits c.requires.level c.if-level-eq0.false c.as_slice-targets.ensures in
    omega arith

pub push_greater_level-requires-clause-source_count : goal.push_greater_level-requires-clause-source_count
push_greater_level-requires-clause-source_count c =
    source_place c.args.w.now c.args.part.now.shape.parameters c.args.source.now c.args.target.now c.as_slice-sources.result.now c.args.level c.requires.fits c.requires.level c.if-level-eq0.false c.as_slice-sources.ensures

pub push_greater_level-requires-clause-target_count : goal.push_greater_level-requires-clause-target_count
push_greater_level-requires-clause-target_count c =
    target_place c.args.w.now c.args.part.now.shape.parameters c.args.source.now c.args.target.now c.as_slice-targets.result.now c.args.level c.requires.fits c.requires.level c.if-level-eq0.false c.as_slice-targets.ensures
