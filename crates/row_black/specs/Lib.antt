pub mod Black
pub mod Promises
pub mod Rows
pub mod Worked
