pub mod SolvedForm
pub mod SolvedLaws
