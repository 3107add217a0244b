pub mod Zeros
pub mod Worked
