pub mod Each
pub mod Parts
pub mod Select
pub mod Walk
