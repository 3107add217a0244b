pub mod Listed
pub mod Worked
