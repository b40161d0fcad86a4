pub mod Crowds
pub mod Firsts
pub mod Laws
pub mod LegalPlans
pub mod Sizes
pub mod Verdicts
