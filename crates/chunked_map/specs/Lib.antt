pub mod Lending
pub mod Pairs
