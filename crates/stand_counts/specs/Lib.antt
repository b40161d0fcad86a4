pub mod AtDepartures
pub mod Flights
pub mod Laws
