-- Handed on from scop_data.
pub use Rattle.scop_data.specs.Meaning.{InContext, Instance, statement_at, InDomain, IsInstance, affine_at, floor_of, floors_after, levels_at, interleaved, stamp_of, stamp_in, stamp, use_at, event_in, event, step, Touch, Conflict, Run, memory_after, final}
