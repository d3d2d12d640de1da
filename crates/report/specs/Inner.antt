-- What only the code and the proofs of a report speak of.
pub mod Lines
pub mod Runs
pub mod Cursor
