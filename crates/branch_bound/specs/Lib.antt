pub mod Growing
pub mod History
pub mod Ranks
pub mod Search
pub mod Settled
pub mod Solved
pub mod hinted_trees
