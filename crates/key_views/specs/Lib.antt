pub mod Asked
pub mod InUse
pub mod OutboundQueries
pub mod ProfileQueries
