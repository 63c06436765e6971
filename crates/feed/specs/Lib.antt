-- What the reader's and the writer's promises say besides 01's definitions.
pub mod State
pub mod Writing
