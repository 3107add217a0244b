pub mod Note
pub mod Parts
pub mod Worked
