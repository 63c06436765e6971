-- What the code holds while it reads route records.
pub mod Keep
pub mod State
