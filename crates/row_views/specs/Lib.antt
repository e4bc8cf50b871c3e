pub mod Costs
pub mod Ids
pub mod InUse
pub mod Queries
pub mod Standing
