mod Checks
pub mod Points
pub mod Systems
