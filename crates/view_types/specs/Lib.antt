pub mod Defaults
pub mod Lawful
pub mod Numbers
pub mod Objects
pub mod Ports
