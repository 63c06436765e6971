-- What the proofs of `journeys` share.
pub mod Tracing
pub mod Labelled
pub mod Listing
