mod AtKeys
pub mod Deliveries
pub mod Held
pub mod LastDrain
pub mod Lives
mod Ordered
pub mod Sendable
mod SendableAuthz
mod SendableInbound
mod SendableOutbound
mod SendableProfiles
mod SendableRoutes
mod SendableRows
pub mod Simulating
pub mod Telling
pub mod Told
