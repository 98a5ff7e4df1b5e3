pub mod Keeping
pub mod Stamping
