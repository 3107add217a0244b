pub mod Parts
pub mod Names
pub mod Seen
pub mod Lines
pub mod Room
