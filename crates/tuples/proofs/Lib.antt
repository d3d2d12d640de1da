pub mod Tuples
pub mod Marked
pub mod From
pub mod Seeking
pub mod Numbering
pub mod Pairs
pub mod Answers
