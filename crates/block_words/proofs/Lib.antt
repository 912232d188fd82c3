pub mod Flips
pub mod Outcomes
