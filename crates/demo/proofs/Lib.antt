pub mod Appends
pub mod Kept
pub mod Short
pub mod Translations
pub mod ClearEdits
pub mod ScriptStops
pub mod Stages
mod Checks
