mod Followed
mod InPlace
mod Named
mod RouteCosts
mod Twos
