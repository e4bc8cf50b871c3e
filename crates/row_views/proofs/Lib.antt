pub mod Costs
pub mod IdSets
pub mod Ids
pub mod InUse
pub mod Numbers
pub mod RowQueries
pub mod Standing
pub mod Truncated
