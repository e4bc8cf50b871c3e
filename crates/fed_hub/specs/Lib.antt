pub mod HubSteps
pub mod LineSteps
