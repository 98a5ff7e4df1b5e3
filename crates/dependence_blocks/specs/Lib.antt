pub mod Blocks
pub mod KeptLines
pub mod Conflicts
