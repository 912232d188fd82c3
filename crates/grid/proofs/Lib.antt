pub mod Promises
pub mod Verdicts
pub mod Numbers
