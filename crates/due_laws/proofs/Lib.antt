mod Calls
pub mod Lookback
pub mod Unmoved
