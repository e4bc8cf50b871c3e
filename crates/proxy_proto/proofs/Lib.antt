mod Asked
pub mod Checking
pub mod LabelMaps
pub mod MatchReading
pub mod MetKeys
