mod Costs
mod AllFollowed
mod AllKept
pub mod AllStanding
mod Asked
mod ById
mod DueIds
mod Front
mod InUse
mod MadeDue
pub mod Mapped
mod Near
mod Shown
mod Standing
pub mod Streamed
