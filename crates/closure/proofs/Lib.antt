-- What the functions' proofs cite.
pub mod Begins
pub mod Seconds
pub mod Closure
