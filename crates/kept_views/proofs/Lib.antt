mod Costs
mod Parts
