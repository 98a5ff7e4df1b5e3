pub mod Terms
pub mod Statements
pub mod Regions
pub mod Occurrences
pub mod Translation
pub mod Laws
pub mod Layers
