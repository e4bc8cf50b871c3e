pub mod EndpointKeys
pub mod Given
pub mod Naming
pub mod Slices
pub mod Standing
pub mod Still
pub mod Told
