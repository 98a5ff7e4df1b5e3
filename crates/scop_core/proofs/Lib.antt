pub mod Assemblies
pub mod AssemblableData
pub mod HeldPieces
pub mod Validities
pub mod Arrays
pub mod ClashFree
pub mod KeptLimits
pub mod ReadBackNames
pub mod ReadBackPieces
pub mod ScopShapes
mod Checks
