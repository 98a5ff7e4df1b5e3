-- What decides whether a script may be applied: the systems of pairs whose order it reverses, and the memory that it keeps.
pub mod Mixed
pub mod Reversals
pub mod Violations
pub mod Answers
pub mod Edits
pub mod Memories
