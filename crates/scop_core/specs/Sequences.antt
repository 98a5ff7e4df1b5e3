-- Handed on from scop_data.
pub use Rattle.scop_data.specs.Sequences.{In, Precedes, Distinct, Rising, RunOf, SameOrder, fold_steps}
