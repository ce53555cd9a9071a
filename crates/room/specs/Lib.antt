pub mod Limits
pub mod Record
pub mod Owned
pub mod Rules
