-- Laws of reading walks and all records, for the functions' proofs.
pub mod Walk
pub mod Records
