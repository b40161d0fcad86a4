pub mod Following
pub mod Grounds
pub mod Moves
pub mod Successors
pub mod Lines
pub mod ground_turns
pub mod cycle_join
