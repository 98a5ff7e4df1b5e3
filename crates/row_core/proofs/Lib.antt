mod Checks
pub mod Ring
pub mod Rows
pub mod Sparse
pub mod Places
pub mod DenseBounds
pub mod DenseOrder
pub mod DenseSlices
pub mod DensePlaces
mod Merging
