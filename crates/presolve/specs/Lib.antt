pub mod Cells
pub mod Choices
pub mod Ends
pub mod Laws
pub mod Reasons
pub mod Removals
pub mod Rules
pub mod Search
