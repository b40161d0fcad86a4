pub mod OptionalFit
pub mod ReadLaws
pub mod TablesWith
