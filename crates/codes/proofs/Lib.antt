pub mod Verdict
pub mod Promises
pub mod Tally
pub mod Product
pub mod Trials
pub mod Address
pub mod Deciding
pub mod Whole
