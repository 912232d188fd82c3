pub mod Stack
pub mod Mixing
pub mod Syndromes
pub mod Places
pub mod Equations
pub mod Distance
pub mod Promises
pub mod Outcomes
