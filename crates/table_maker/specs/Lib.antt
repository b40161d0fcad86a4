pub mod Draws
pub mod Fields
pub mod Laws
pub mod Made
pub mod Records
pub mod Trips
