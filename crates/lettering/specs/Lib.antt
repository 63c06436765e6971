-- What the contracts of `lettering` and of the lines above it cite.
pub mod Put
