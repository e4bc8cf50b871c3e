pub mod Decision
pub mod Faults
pub mod FullViews
