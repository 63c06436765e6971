-- What the contracts of `rounds` cite: a row, a round, and the promise of `run`.
pub mod Round
pub mod Run
