-- What only the contracts of inner code and the proofs cite.
pub mod Rows
pub mod Grid
pub mod Labels
