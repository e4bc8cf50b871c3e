pub mod AscendingIds
pub mod EntriesById
pub mod Lists
pub mod Marks
pub mod Optional
pub mod Placed
pub mod Texts
