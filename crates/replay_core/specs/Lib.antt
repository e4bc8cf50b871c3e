pub mod Headline
pub mod Stand
