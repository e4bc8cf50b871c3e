pub mod Entries
pub mod Roles
pub mod Settled
pub mod Sets
