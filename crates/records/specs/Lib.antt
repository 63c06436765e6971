-- What the code holds while it reads all records.
pub mod State
