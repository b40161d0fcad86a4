pub mod LegalCosts
pub mod OneVerdict
pub mod OtherSizes
