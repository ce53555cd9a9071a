pub mod Choices
pub mod Rules
pub mod Sessions
pub mod Crossing
