pub mod Limits
pub mod Numbers
pub mod Tables
pub mod Oldest
pub mod Formed
