pub mod Lines
pub mod Placings
