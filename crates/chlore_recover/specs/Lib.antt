-- The script that turns the original's schedules into the target's.
pub mod Triangles
pub mod Recoverable
pub mod LevelScripts
pub mod Runs
pub mod Strategy
pub mod Splits
pub mod Drafted
pub mod Orders
pub mod Laws
pub mod Recovered
pub mod Refusals
pub mod Passes
