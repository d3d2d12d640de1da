pub mod Bytes
pub mod Examples
pub mod Items
pub mod Outcome
pub mod Weaving
