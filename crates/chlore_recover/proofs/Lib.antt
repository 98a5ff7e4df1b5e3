mod Checks
mod Scripts
mod Rows
pub mod Ends
pub mod Factors
pub mod Plains
pub mod Reverses
pub mod Interchanges
pub mod Skews
pub mod Triangulars
pub mod Shifts
pub mod Levels
pub mod Ranges
pub mod Unrefused
pub mod Wide
pub mod Apart
pub mod Joins
pub mod Orders
pub mod Members
pub mod Leveled
pub mod Taken
pub mod Rises
pub mod Awaits
pub mod Stands
pub mod Trailed
pub mod Ranks
pub mod Pairs
pub mod Seats
pub mod Moves
pub mod Assembly
pub mod Recoveries
pub mod Parting
pub mod Decisions
