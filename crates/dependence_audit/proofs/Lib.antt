mod Checks
pub mod Certified
pub mod Compared
pub mod Defined
pub mod EntryReadings
pub mod Printed
pub mod PrintedLines
pub mod Sound
pub mod TrimmedWords
pub mod Turns
