pub mod Loops
pub mod Forms
pub mod Holding
pub mod Bounds
pub mod Turns
pub mod Conditions
pub mod PartRows
pub mod Members
pub mod Reaching
pub mod Traces
pub mod TurnOrders
pub mod TurnSteps
pub mod Meanings
pub mod BetaClashes
pub mod StatementPieces
pub mod ReadBacks
pub mod Counts
pub mod RowRanges
pub mod OutsideIn
pub mod NameRoles
mod Checks
mod ScopChecks
mod RefusalChecks
mod NameChecks
