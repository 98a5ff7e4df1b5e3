-- Handed on from scop_data.
pub use Rattle.scop_data.specs.Order.{Before, IsPrefix}
