pub mod Depths
pub mod Kept
pub mod Lawfully
pub mod Negations
pub mod Quantities
pub mod Statuses
pub mod Strings
pub mod Tables
