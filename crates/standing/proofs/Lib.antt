-- Laws of marks, for the functions' proofs here and above.
pub mod Marks
