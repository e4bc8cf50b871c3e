pub mod Earlier
pub mod Passing
