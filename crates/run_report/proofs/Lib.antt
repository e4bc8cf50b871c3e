mod Fronts
mod Growth
mod Places
mod Written
