-- What only code and proofs go by.
pub mod Sound
