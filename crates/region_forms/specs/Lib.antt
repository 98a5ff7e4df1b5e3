pub mod Evaluations
pub mod Conditions
pub mod Bounds
