pub mod Certificates
pub mod Points
pub mod Texts
