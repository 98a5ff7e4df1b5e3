-- Beta vectors as the leaves of a tree, the operations on them, and the laws of the operations.
pub mod Vectors
pub mod Edits
pub mod Answers
pub mod Laws
pub mod Lengths
