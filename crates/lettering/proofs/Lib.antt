-- Laws of what is put, for the functions' proofs and for the lines above.
pub mod Puts
