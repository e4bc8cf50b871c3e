pub mod Found
mod PortSteps
mod ProfileSteps
pub mod RouteSteps
pub mod Rows
pub mod SliceSteps
