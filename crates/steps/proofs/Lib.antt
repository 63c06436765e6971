-- What the proofs of the search share.
pub mod Seconds
pub mod Leaves
pub mod Stand
pub mod Late
pub mod Search
