pub mod Values
pub mod Nests
pub mod Statements
pub mod Grammar
pub mod Derivations
pub mod Prefixes
pub mod Regions
