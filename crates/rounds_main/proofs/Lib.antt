-- That the networks may be asked.
pub mod Networks
