pub mod Meanings
pub mod Queries
pub mod Requests
pub mod Sendable
