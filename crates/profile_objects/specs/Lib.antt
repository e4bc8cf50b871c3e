pub mod Laws
pub mod Matches
pub mod Nested
pub mod Profiles
pub mod Requests
pub mod Responses
