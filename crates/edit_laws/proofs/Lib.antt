mod Checks
pub mod Rows
pub mod Lists
pub mod Levels
pub mod Pieces
pub mod Domains
pub mod Comes
pub mod Once
pub mod Scripts
pub mod Instances
pub mod Unrefused
pub mod Vectors
pub mod Trees
pub mod Runs
pub mod Numbers
pub mod Brought
