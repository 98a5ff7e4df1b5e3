pub mod Contents
pub mod Readings
pub mod Audits
pub mod Theorems
pub mod Defined
