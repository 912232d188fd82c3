pub mod Shown
pub mod Steps
pub mod Outcomes
