pub mod Reply
pub mod Calls
pub mod Promises
