pub mod Joined
pub mod Lists
pub mod Parted
pub mod Parts
pub mod SortedLists
