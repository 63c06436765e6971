-- Laws of reading route records, for the functions' proofs; those of tables serve the walks too.
pub mod Held
pub mod Trip
pub mod RouteTests
pub mod Route
pub mod Routing
