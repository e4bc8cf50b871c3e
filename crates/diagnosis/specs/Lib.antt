pub mod Diagnosed
pub mod Headline
pub mod Stand
