pub mod Seniority
pub mod Inner
