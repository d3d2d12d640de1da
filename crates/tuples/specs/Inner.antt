-- What only the contracts of inner code and the proofs cite.
pub mod Marks
pub mod Blocks
