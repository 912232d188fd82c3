pub mod Answer
pub mod Calls
pub mod Steps
pub mod Sums
