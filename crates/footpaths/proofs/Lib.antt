-- What the functions' proofs cite.
pub mod Stands
pub mod WalkTests
