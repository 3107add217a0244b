pub mod Parts
pub mod Order
pub mod Theorem
pub mod Bands
pub mod Worked
