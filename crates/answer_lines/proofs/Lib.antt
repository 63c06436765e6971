pub mod Looked
pub mod Prints
