pub mod Room
pub mod Outcomes
