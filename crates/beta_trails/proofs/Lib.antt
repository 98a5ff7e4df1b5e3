mod Checks
pub mod Steps
pub mod Sorted
pub mod Dense
pub mod Parted
pub mod Boundaries
pub mod Firsts
pub mod Ranked
