pub mod Fault
pub mod Name
pub mod Flag
pub mod Time
pub mod Number
pub mod Record
