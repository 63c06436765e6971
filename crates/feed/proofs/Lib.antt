-- Laws of reading and writing, for the functions' proofs.
pub mod Top
pub mod Judge
pub mod Clearing
pub mod Answers
pub mod One
