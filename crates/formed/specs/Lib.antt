pub mod Standings
pub mod Names
pub mod Tally
