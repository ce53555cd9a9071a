pub mod Drains
pub mod Weighs
pub mod Lower
pub mod Delivers
pub mod Gets
