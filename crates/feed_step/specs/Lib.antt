pub mod LineStep
pub mod Reading
pub mod Sorts
pub mod Transcript
