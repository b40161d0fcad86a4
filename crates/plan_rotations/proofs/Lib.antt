pub mod Best
pub mod Flown
pub mod Listed
pub mod Pushed
