pub mod Admits
pub mod Laws
pub mod Meeting
pub mod Networks
pub mod Verdicts
