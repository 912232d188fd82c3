pub mod Columns
pub mod Steps
pub mod Outcomes
