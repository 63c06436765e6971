-- Laws of bytes put, for the functions' proofs and for the layer above.
pub mod Sent
pub mod Put
pub mod Feed
