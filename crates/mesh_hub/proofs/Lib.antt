mod Accepted
pub mod Calls
mod Changed
mod Costs
mod Drained
pub mod HubSteps
mod LiveSubs
mod Ports
mod UpTo
