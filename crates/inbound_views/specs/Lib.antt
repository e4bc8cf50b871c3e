pub mod BarePorts
pub mod Costs
pub mod InUse
pub mod PortRows
pub mod Standing
