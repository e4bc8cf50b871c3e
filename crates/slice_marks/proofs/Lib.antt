pub mod Agreeing
pub mod Orders
pub mod Reading
