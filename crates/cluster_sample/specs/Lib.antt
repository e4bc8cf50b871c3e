pub mod Counted
pub mod Headline
pub mod Stand
