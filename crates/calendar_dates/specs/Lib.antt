pub mod Days
pub mod Reading
