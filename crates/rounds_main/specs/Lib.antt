-- What the program's functions ask.
pub mod Network
