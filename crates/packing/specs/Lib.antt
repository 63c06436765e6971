-- What the contracts of `packing` cite.
pub mod Packed
