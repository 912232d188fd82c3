pub mod Scrubs
pub mod Outcomes
