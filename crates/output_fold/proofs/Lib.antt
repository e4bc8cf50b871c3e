pub mod Frames
pub mod Fronts
pub mod Numbers
pub mod Rows
pub mod Words
