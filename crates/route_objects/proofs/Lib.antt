pub mod Lawfully
pub mod ParentLaw
pub mod Parts
