-- What the contracts of `leg_lines` and of the lines above it cite.
pub mod Leg
