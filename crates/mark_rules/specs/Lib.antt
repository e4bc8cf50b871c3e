pub mod MarkLookups
pub mod Changes
pub mod Laws
pub mod Marks
pub mod ServerMatches
pub mod Reads
pub mod Rows
