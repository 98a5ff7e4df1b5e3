mod Samples
pub mod Laws
pub mod TextLaws
