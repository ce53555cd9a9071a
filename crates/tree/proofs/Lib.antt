pub mod Folds
pub mod Root
pub mod Dominance
pub mod Agreement
pub mod Children
pub mod Frames
pub mod Ranks
pub mod Kept
