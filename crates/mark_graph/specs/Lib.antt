pub mod Items
pub mod Moves
pub mod Puts
pub mod RowMarks
