pub mod FirstOut
pub mod Laws
pub mod Maps
pub mod Nights
pub mod Parts
pub mod Segments
pub mod Throughs
pub mod Turns
