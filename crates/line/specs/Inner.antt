pub mod Head
pub mod Rule
