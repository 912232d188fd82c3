pub mod Again
pub mod Switches
pub mod ReadBack
pub mod Promises
