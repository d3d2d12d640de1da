pub mod Labels
pub mod Labelling
pub mod Rows
pub mod Compile
pub mod Apart
pub mod Inner
