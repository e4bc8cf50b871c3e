pub mod Lawfully
pub mod Paths
pub mod Seen
