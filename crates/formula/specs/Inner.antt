-- What only the contracts of inner code and the proofs cite.
pub mod Lane
pub mod Fits
pub mod Grant
pub mod Group
pub mod Source
pub mod Square
pub mod Blocks
