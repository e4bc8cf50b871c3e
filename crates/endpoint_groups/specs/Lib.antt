pub mod Encoded
pub mod Members
