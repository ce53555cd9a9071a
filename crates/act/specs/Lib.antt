pub mod Desk
pub mod Acts
pub mod Start
