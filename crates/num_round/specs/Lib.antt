pub mod Whole
pub mod Worked
