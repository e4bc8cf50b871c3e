pub mod Notes
pub mod Own
