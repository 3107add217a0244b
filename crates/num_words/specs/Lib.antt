pub mod Words
pub mod Worked
