pub mod Equations
pub mod Code
pub mod Verdict
pub mod Promises
pub mod Sides
pub mod Steps
pub mod Outcomes
