-- How the script is found, and when its search ends early.
pub mod Agreements
pub mod Falling
pub mod Lengths
pub mod Ranks
pub mod Steps
