pub mod Sizes
pub mod Ends
