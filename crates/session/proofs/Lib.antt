pub mod Fresh
pub mod Known
