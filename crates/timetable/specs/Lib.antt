-- What the functions of the rules take and promise.
pub mod Counts
pub mod Fault
pub mod Needed
