pub mod Costs
pub mod ById
pub mod DueIds
pub mod Live
pub mod Standing
pub mod Unique
