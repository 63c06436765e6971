-- Laws of the packed answers and of the entries.
pub mod Entries
pub mod Told
