pub mod FaultText
pub mod Folded
pub mod Given
pub mod Headline
pub mod Lines
pub mod Numbers
pub mod Stand
