pub mod Number
pub mod Parts
pub mod Kind
pub mod Inner
