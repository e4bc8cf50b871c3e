pub mod ById
pub mod Drained
pub mod Fronts
pub mod Openings
pub mod Rows
pub mod Taken
pub mod UpTo
pub mod Words
