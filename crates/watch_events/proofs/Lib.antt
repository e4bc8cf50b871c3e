pub mod Apart
pub mod EachObject
pub mod Groups
pub mod Lawfully
pub mod OfEachForm
pub mod OfEachLine
pub mod Pairs
mod Simulations
pub mod Targets
