pub mod Aside
pub mod Decoder
pub mod Outcomes
