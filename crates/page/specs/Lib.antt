pub mod Answer
pub mod Tally
pub mod Calls
pub mod Promises
pub mod Steps
