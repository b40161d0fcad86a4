pub mod Duals
pub mod LastTables
pub mod Mixture
pub mod Parts
pub mod Readings
pub mod Scales
pub mod TooLarge
