pub mod Applying
pub mod HubAnswers
pub mod LineAnswers
