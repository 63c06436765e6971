-- What rule 7's functions read and promise.
pub mod Stops
