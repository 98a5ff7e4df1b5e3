pub mod Turns
pub mod ValueLemmas
pub mod StatementLemmas
pub mod Yields
pub mod ValueYields
pub mod StatementYields
pub mod Comes
pub mod ValueComes
pub mod StatementComes
pub mod Runs
pub mod ValueRuns
pub mod StatementRuns
pub mod RegionLemmas
mod Checks
