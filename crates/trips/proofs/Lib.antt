-- What the functions' proofs cite.
pub mod EventTests
pub mod Routes
