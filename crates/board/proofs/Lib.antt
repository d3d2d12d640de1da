pub mod Run
pub mod OneEntry
pub mod Refusals
pub mod Kept
pub mod Agreement
pub mod OneRequest
pub mod Valid
pub mod Judging
mod Look
mod Users
mod ByNumber
mod Chains
mod Ways
mod Fitting
mod Settled
mod Asked
