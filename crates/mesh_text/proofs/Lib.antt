pub mod FullReads
pub mod Hosts
pub mod JsonReading
pub mod MethodTexts
pub mod Names
pub mod Pieces
pub mod PortRefs
pub mod Tokens
