mod ByCmp
mod Differing
pub mod Followed
pub mod Gathered
mod KeyNumbers
pub mod Keys
pub mod MarkLists
pub mod Puts
mod Tied
mod Users
mod Watched
