mod Checks
mod StatementChecks
mod TreeChecks
mod TextChecks
pub mod Affine
pub mod Answered
mod BranchChecks
