pub mod Way
pub mod Heights
pub mod Squeeze
pub mod Start
pub mod Measure
