pub mod Members
pub mod Streams
