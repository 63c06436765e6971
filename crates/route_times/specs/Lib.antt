-- What the functions of 8 and 9 on one route take and promise.
pub mod Route
pub mod Folds
