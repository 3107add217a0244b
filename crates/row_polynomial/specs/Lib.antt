pub mod Terms
pub mod Blocks
