pub mod Room
pub mod Printing
