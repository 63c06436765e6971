pub mod Scanned
pub mod Fields
pub mod Chain
