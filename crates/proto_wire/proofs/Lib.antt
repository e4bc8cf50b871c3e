pub mod Cuttings
pub mod Feeding
pub mod Filling
pub mod Heads
pub mod Lengths
pub mod MadeUp
pub mod Round
mod Scans
pub mod Spellings
pub mod Streams
mod VarintRead
pub mod Varints
pub mod Written
