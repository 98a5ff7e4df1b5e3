pub mod LineCuts
pub mod FilesUnder
pub mod Pieces
pub mod Digits
pub mod NumberLaws
pub mod WordCuts
mod Checks
