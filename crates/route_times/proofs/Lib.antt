-- What the functions' proofs cite.
pub mod Folds
pub mod Rising
