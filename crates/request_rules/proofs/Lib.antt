pub mod Admitted
pub mod Blocks
pub mod Clients
pub mod Deciders
pub mod FirstAdmitting
pub mod Probes
pub mod Shapes
pub mod Undecided
