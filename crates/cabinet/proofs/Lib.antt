-- No second answer of the cabinet's functions.
pub mod Answers
