pub mod Joins
pub mod Labels
pub mod Meetings
pub mod Rounds
