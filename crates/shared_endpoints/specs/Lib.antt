pub mod ByKey
pub mod InUse
pub mod Sharing
pub mod Standing
