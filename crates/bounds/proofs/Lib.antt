pub mod Weights
pub mod Messages
pub mod Counters
pub mod Limits
