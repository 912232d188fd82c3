pub mod Columns
pub mod Rows
pub mod Errors
pub mod Deciding
pub mod Outcomes
