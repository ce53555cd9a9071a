pub mod Parts
pub mod Clauses
pub mod Messages
