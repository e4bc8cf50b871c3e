mod AmongMarked
pub mod Costs
mod InOrder
pub mod Merged
mod References
pub mod Steps
