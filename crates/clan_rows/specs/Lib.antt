-- Forms in range and layers: what one loop or one condition asks of the iterators inside it, with the code's types as such.
pub mod Fitting
pub mod Comparisons
pub mod Layers
pub mod Bounds
pub mod Contents
pub mod Pieces
