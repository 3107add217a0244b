pub mod Marks
pub mod Scratch
pub mod Worked
