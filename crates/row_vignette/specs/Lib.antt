pub mod Reach
pub mod Rows
pub mod Worked
