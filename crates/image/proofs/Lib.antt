pub mod Walking
pub mod Shape
pub mod Walks
pub mod Checking
pub mod Promises
pub mod Stepping
