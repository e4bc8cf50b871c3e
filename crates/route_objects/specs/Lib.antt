pub mod Backends
pub mod Filters
pub mod Laws
pub mod Matches
pub mod NameMatches
pub mod Parents
pub mod Routes
pub mod Rules
