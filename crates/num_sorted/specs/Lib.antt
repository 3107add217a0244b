pub mod Sorts
pub mod Worked
