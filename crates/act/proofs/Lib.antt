pub mod Serving
mod Laid
