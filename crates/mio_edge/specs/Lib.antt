pub mod Answers
pub mod Numbers
pub mod Shown
pub mod Streams
