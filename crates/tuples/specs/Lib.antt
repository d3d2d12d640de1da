pub mod Tuples
pub mod Inner
