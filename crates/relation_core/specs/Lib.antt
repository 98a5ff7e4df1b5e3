pub mod Layouts
pub mod Points
pub mod Systems
