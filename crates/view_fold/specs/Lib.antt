pub mod Laws
pub mod Rise
pub mod Sorted
