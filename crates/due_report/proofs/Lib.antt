pub mod Pushed
pub mod Tellable
