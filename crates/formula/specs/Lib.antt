pub mod Truth
pub mod Decide
pub mod Inner
