pub mod Arguments
pub mod Found
pub mod Plain
pub mod Program
pub mod Refusals
pub mod Values
pub mod Words
