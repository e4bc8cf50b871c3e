pub mod ByKey
pub mod RouteMaps
pub mod SameLines
