-- What the contracts of `journeys` cite: reading back.
pub mod ReadBack
