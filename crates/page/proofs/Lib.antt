pub mod Last
pub mod Counts
pub mod Laws
pub mod Promises
