pub mod Agreement
pub mod Diagnoses
pub mod SameObjects
