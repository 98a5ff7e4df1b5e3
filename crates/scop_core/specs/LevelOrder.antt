-- Handed on from scop_data.
pub use Rattle.scop_data.specs.LevelOrder.{common_loops, is_textually_before, EqualUpTo, LessAfter, IsLevel, levels_between, OrdersAt, level_values}
