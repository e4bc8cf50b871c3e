pub mod ByIds
pub mod Counts
