pub mod Found
mod Keys
mod OnePass
pub mod Passed
mod Pieces
mod PutBack
