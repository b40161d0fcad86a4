pub mod Arcs
pub mod Least
pub mod Paid
pub mod Payback
pub mod Rises
pub mod Rounds
pub mod Steps
