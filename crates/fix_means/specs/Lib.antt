pub mod Means
pub mod Worked
