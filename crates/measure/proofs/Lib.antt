pub mod Behind
pub mod Piles
pub mod Loads
pub mod Moves
pub mod Falls
pub mod Bound
