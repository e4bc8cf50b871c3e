pub mod ByMark
pub mod References
