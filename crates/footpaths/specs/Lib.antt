-- What rule 10's functions need.
pub mod Walks
