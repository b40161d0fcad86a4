pub mod Multiples
pub mod Products
pub mod Shown
pub mod Weights
