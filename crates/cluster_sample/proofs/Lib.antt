pub mod Lines
pub mod Sampled
pub mod Told
pub mod Totals
