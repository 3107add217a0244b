pub mod Points
pub mod Select
pub mod Worked
