pub mod Entries
pub mod Layout
pub mod Outline
pub mod Points
pub mod Program
pub mod Staying
pub mod Meeting
