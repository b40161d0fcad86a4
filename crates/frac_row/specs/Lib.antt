pub mod Outgrown
pub mod Ratio
pub mod Row
pub mod Combined
pub mod Combine
pub mod Content
pub mod Pairs
pub mod Lines
