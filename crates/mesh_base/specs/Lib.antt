pub mod formers
pub mod KeyOrder
pub mod Keyed
pub mod Limits
pub mod Numeral
pub mod Pieces
pub mod Places
