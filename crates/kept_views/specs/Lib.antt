pub mod InUse
pub mod KeptQueries
pub mod Parts
