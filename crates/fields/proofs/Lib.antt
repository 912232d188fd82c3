pub mod Titles
pub mod Fields
pub mod Promises
