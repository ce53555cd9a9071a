pub mod Limits
pub mod Work
pub mod Rules
pub mod Events
pub mod Refusals
pub mod Step
