pub mod Changes
pub mod Closing
pub mod Draining
pub mod Settling
pub mod Work
