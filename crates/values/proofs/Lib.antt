pub mod Fits
pub mod Outcomes
