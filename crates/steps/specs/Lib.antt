-- What the contracts of the search cite.
pub mod Search
pub mod Rides
