pub mod Between
pub mod Civil
pub mod NextDays
