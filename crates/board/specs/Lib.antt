pub mod Machine
pub mod Board
pub mod Inner
