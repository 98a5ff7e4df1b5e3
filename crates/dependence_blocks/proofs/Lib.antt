pub mod Joined
pub mod KeptLines
pub mod Kept
