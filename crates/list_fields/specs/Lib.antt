pub mod Fields
pub mod Worked
