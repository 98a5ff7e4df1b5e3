pub mod Bases
pub mod Decisions
pub mod Found
