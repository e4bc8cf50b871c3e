pub mod Asks
pub mod Candidates
pub mod FirstBest
pub mod Parts
pub mod Queries
pub mod Steps
