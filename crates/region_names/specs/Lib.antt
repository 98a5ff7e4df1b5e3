pub mod Answers
pub mod Registers
pub mod Roles
pub mod Tables
pub mod Telling
pub mod Walks
