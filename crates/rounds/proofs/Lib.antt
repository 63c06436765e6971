-- Laws that the proofs of more than one function cite, and what each loop keeps.
pub mod Writing
pub mod Rounding
pub mod Labels
pub mod Running
