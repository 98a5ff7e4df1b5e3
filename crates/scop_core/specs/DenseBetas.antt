-- Handed on from scop_data.
pub use Rattle.scop_data.specs.DenseBetas.{dense_vector, with_betas, dense_statement, densely_numbered}
