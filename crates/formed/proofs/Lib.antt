pub mod Lists
pub mod Counted
pub mod Same
pub mod Tallied
