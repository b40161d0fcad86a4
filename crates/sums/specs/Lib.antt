pub mod Below
pub mod Divisors
pub mod Places
pub mod Ways
