pub mod Frames
pub mod Given
pub mod Unframing
pub mod Wire
