-- Dense beta vectors in lexicographic order, as a trail of lengths and agreements.
pub mod Trails
pub mod Laws
