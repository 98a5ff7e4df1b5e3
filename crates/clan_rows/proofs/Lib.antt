pub mod Ranges
pub mod Multiples
pub mod FormLaws
pub mod LayerLaws
pub mod BoundLaws
pub mod Pieces
pub mod Shapes
mod Checks
