pub mod Kept
pub mod Printing
pub mod DecidedLists
mod Checks
