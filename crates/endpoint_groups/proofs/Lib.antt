pub mod Entering
pub mod Moving
pub mod Noting
