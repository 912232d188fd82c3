pub mod Fields
pub mod Tags
pub mod Answer
pub mod Calls
pub mod Promises
