-- What the cabinet's functions promise.
pub mod Calls
