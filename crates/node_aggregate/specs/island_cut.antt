pub mod IslandLaws
pub mod Islands
pub mod Lookup
pub mod PlainDay
pub mod Spare
pub mod Zeros
