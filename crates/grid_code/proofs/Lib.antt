pub mod Verdict
pub mod Codeword
pub mod Distance
pub mod Places
pub mod Checks
pub mod Promises
pub mod Outcomes
