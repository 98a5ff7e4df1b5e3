use Rattle.std.proofs.Common.{arith, ◌<◌, ◌-◌, length}
use Rattle.dependence_systems.proofs.LevelCounts.{count_source, count_target, level_source, level_target}
use Rattle.dependence_systems.proofs.level_rows.push_level.Goals as goal

pub push_equal_levels-requires-clause-source_count : goal.push_equal_levels-requires-clause-source_count
push_equal_levels-requires-clause-source_count c =
    count_source c.args.w.now c.args.part.now.shape.parameters c.args.source.now c.args.target.now c.as_slice.result.now c.as_slice-then-level-eq0.result.now c.as_slice-sources.result.now
    c.count_common-common.result c.requires.fits c.count_common-common.ensures.answer c.as_slice.ensures c.as_slice-then-level-eq0.ensures c.as_slice-sources.ensures

pub push_equal_levels-requires-clause-target_count : goal.push_equal_levels-requires-clause-target_count
push_equal_levels-requires-clause-target_count c =
    count_target c.args.w.now c.args.part.now.shape.parameters c.args.source.now c.args.target.now c.as_slice.result.now c.as_slice-then-level-eq0.result.now c.as_slice-targets.result.now
    c.count_common-common.result c.requires.fits c.count_common-common.ensures.answer c.as_slice.ensures c.as_slice-then-level-eq0.ensures c.as_slice-targets.ensures

pub push_equal_levels-requires-else-level-eq0-clause-source_count : goal.push_equal_levels-requires-else-level-eq0-clause-source_count
push_equal_levels-requires-else-level-eq0-clause-source_count c =
    let below : c.args.level - 1 < length c.as_slice-sources.result.now
    = level_source c.args.w.now c.args.part.now.shape.parameters c.args.source.now c.args.target.now c.as_slice-sources.result.now c.args.level c.requires.fits c.requires.level c.if-level-eq0.false c.as_slice-sources.ensures in
    omega arith

pub push_equal_levels-requires-else-level-eq0-clause-target_count : goal.push_equal_levels-requires-else-level-eq0-clause-target_count
push_equal_levels-requires-else-level-eq0-clause-target_count c =
    let below : c.args.level - 1 < length c.as_slice-targets.result.now
    = level_target c.args.w.now c.args.part.now.shape.parameters c.args.source.now c.args.target.now c.as_slice-targets.result.now c.args.level c.requires.fits c.requires.level c.if-level-eq0.false c.as_slice-targets.ensures in
    omega arith

pub push_less_level-requires-clause-source_count : goal.push_less_level-requires-clause-source_count
push_less_level-requires-clause-source_count c =
    level_source c.args.w.now c.args.part.now.shape.parameters c.args.source.now c.args.target.now c.as_slice-sources.result.now c.args.level c.requires.fits c.requires.level c.if-level-eq0.false c.as_slice-sources.ensures

pub push_less_level-requires-clause-target_count : goal.push_less_level-requires-clause-target_count
push_less_level-requires-clause-target_count c =
    level_target c.args.w.now c.args.part.now.shape.parameters c.args.source.now c.args.target.now c.as_slice-targets.result.now c.args.level c.requires.fits c.requires.level c.if-level-eq0.false c.as_slice-targets.ensures
