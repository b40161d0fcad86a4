pub mod Json
pub mod Summary
