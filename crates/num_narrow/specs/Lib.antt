pub mod Narrow
pub mod Worked
