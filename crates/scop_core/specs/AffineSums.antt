-- Handed on from scop_data.
pub use Rattle.scop_data.specs.AffineSums.{plus_multiple, moved, negative, widened, last_floor, HaveOneSize, sum_weight, move_weight}
