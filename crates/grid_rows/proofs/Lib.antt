pub mod Repair
pub mod Outcomes
