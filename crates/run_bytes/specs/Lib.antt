pub mod Samples
pub mod Worked
