pub mod Lending
pub mod Spots
