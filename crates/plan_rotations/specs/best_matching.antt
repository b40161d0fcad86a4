pub mod Worths
pub mod Drafts
pub mod Trees
