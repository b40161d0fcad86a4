pub mod Costs
pub mod Fleets
