pub mod Codes
pub mod Modes
pub mod Under
