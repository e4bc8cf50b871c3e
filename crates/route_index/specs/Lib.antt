pub mod Placed
pub mod RouteKeys
