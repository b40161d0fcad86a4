pub mod Counts
pub mod Desk
pub mod DeskFile
pub mod Sink
pub mod Writer
