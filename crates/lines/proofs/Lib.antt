pub mod Digits
pub mod Adding
pub mod Printing
pub mod Places
pub mod Lengths
pub mod Promises
