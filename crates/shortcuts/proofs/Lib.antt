pub mod Same
pub mod Ends
pub mod Forbidden
pub mod Owing
