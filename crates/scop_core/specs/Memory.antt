-- Handed on from scop_data.
pub use Rattle.scop_data.specs.Memory.{Cell, Term, Initial, App, Terms, NoTerms, More, Memory, Agree, initial, same_cell, stored, terms_at, store_each, Use, Event, is_writing, is_read, is_maybe_written, cells_of, taken, computed, step_of, EventsTouch}
