pub mod Bare
mod Costs
mod Entering
mod Following
mod Joined
mod Opening
mod Peeked
mod Rows
mod SetKeys
