mod Checks
pub mod WordLists
pub mod AuditLengths
pub mod ScopTexts
pub mod FileLists
pub mod RunAnswers
pub mod ClayScripts
pub mod Recoverings
pub mod LoopWords
