pub mod Addresses
pub mod NamedPorts
pub mod Pods
pub mod Probes
pub mod SeenIps
pub mod Services
pub mod Slices
