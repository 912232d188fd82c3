pub mod Text
pub mod Answer
pub mod Calls
pub mod Promises
pub mod Steps
