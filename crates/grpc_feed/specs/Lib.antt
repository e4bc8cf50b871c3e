pub mod FeedKinds
pub mod FeedLines
pub mod Given
pub mod GrpcProgram
pub mod Laws
pub mod Routes
