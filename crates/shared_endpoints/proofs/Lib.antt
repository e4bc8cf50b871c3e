pub mod Costs
pub mod ByKey
pub mod Earlier
pub mod Freshness
pub mod Sharing
pub mod Standing
pub mod Truncated
