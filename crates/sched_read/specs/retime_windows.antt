pub mod Counted
pub mod Keys
pub mod Laws
pub mod Settled
pub mod SettledLaws
pub mod Times
pub mod Windows
