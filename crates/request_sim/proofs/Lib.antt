pub mod Alone
mod Applying
pub mod ByRows
mod FirstRow
mod InPlace
pub mod Meets
pub mod Nets
mod TwoLists
