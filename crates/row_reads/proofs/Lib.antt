pub mod AtKeys
pub mod Needs
pub mod Refer
