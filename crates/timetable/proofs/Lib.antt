-- What the functions' proofs cite.
pub mod CountTests
pub mod Faults
pub mod Short
