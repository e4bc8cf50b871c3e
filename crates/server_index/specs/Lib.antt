pub mod Concerned
pub mod Matches
pub mod Noting
pub mod Probes
pub mod Requiring
pub mod ServerKeys
pub mod Standing
pub mod Still
