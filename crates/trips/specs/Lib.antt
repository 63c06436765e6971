-- What the functions of 8 and 9 take and promise.
pub mod Places
pub mod Needed
