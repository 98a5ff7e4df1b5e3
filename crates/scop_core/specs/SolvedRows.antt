-- Handed on from scop_data.
pub use Rattle.scop_data.specs.SolvedRows.{zeros, unit, raised, with_columns, value_row, constant_row, dimension_rows, low_row, high_row, floor_rows, floor_shape, floor_part, schedule_shape, schedule_rows, schedule_part, access_shape, value_rows, access_rows, access_part, HasSizes, PairFits, PairsFit, HasRelation, HasAccessRelation}
