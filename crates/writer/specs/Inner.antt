-- What only the code and the proofs of this crate and of those above it speak of.
pub mod Put
pub mod Whole
