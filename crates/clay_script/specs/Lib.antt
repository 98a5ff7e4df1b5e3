pub mod Names
pub mod Commands
pub mod Lexemes
pub mod Taking
pub mod Reading
pub mod Layout
pub mod Grammar
