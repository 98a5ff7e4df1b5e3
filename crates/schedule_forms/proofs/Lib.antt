pub mod FloorRows
pub mod SolvedForms
pub mod SolvedShapes
pub mod SolvedPieces
pub mod SolvedDots
pub mod SolvedRowMeanings
pub mod SolvedMeanings
pub mod ReadBackLists
pub mod ReadBackParts
pub mod ReadBackRows
pub mod ReadBackSolved
mod SolvedChecks
