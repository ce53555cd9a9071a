pub mod Events
pub mod Runs
pub mod Drains
pub mod Left
pub mod Once
