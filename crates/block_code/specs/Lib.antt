pub mod Equations
pub mod Code
pub mod Promises
pub mod Checks
pub mod Outcomes
