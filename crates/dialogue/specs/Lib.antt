-- What the contracts of `dialogue` and of the program above it cite.
pub mod Says
