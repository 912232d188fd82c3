pub mod Tally
pub mod Steps
pub mod Sums
pub mod Outcomes
