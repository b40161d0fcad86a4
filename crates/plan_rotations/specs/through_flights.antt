pub mod Waits
pub mod Worths
pub mod Choice
pub mod Known
pub mod Chosen
