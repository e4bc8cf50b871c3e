pub mod Configured
pub mod Matched
pub mod Nets
pub mod Sockets
pub mod Tables
pub mod Written
