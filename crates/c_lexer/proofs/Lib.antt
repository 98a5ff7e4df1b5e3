pub mod RegionLemmas
pub mod PlaceLemmas
pub mod RegionBounds
pub mod RegionLines
pub mod TokenLemmas
pub mod ReadingLemmas
pub mod NextTokens
pub mod NumberLemmas
pub mod WordLemmas
pub mod TokenFacts
pub mod SymbolFacts
mod Checks
pub mod TokenForms
pub mod TokenLaws
pub mod Gaps
