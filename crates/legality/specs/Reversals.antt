-- The rows that say that a new schedule puts the target of a dependence before its source.
use Rattle.std.specs.Prelude.{ℕ, zero, suc, List, ◌++◌, max}
use Rattle.relation_core.specs.declared.part_rows.PartRow.{PartRow}
use Rattle.scop_data.specs.declared.schedules.Schedule.{Schedule}
use Rattle.scop_core.specs.LevelOrder.{common_loops}
use Rattle.dependence_systems.specs.declared.widths.Widths.{Widths}
use Rattle.dependence_systems.specs.Systems.{equal_rows, equal_weight, greater_rows, greater_weight}

-- the rows of a level that puts the target first: the levels before it are equal, and it is greater in the source; for
-- level 0 all levels in common are equal
abbrev pub reversed_rows : Widths → Schedule → Schedule → ℕ → List PartRow
reversed_rows w source target zero = equal_rows w source.levels target.levels (common_loops target.betas source.betas)
reversed_rows w source target (suc k) = equal_rows w source.levels target.levels k ++ greater_rows w source.levels target.levels k

-- the greatest sum of the absolute values of an entry's summands in them
abbrev pub reversed_weight : Schedule → Schedule → ℕ → ℕ
reversed_weight source target zero = equal_weight source.levels target.levels (common_loops target.betas source.betas)
reversed_weight source target (suc k) = max (equal_weight source.levels target.levels k) (greater_weight source.levels target.levels k)
