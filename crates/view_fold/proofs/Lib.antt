mod Folded
pub mod Orderly
mod Searched
