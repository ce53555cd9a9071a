pub mod Step
pub mod Same
pub mod Rests
