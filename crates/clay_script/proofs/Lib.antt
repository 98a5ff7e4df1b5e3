pub mod Lexing
pub mod Loops
pub mod Laws
pub mod Forms
pub mod CommandForms
pub mod Weights
pub mod Scripts
pub mod Answers
pub mod Printing
mod Checks
