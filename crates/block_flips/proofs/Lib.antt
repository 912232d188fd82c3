pub mod Naming
pub mod Guessing
pub mod Search
pub mod Outcomes
