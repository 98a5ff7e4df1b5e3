-- What a demo makes of a number of loops, what it shows, and why it shows nothing.
pub mod Inputs
pub mod Summaries
pub mod Edits
pub mod Demonstrations
