pub mod Stalls
pub mod Circle
