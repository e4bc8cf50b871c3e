pub mod Costs
pub mod Entered
pub mod InUse
pub mod Standing
pub mod Used
