pub mod Chunked
pub mod Search
