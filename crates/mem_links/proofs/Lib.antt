pub mod Kept
pub mod OpenLists
pub mod OpenTraces
