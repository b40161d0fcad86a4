pub mod Rotations
pub mod best_matching
pub mod through_flights
