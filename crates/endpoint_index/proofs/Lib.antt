pub mod Filling
pub mod SliceSums
pub mod Standing
pub mod Told
pub mod Untouched
