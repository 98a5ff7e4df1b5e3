pub mod Meaning
pub mod NodeNames
pub mod Tables
pub mod Telling
pub mod ValueNames
