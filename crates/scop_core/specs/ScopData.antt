-- Handed on from scop_data.
pub use Rattle.scop_data.specs.ScopData.{ScopData, arrays_of, betas_in, others, extended}
