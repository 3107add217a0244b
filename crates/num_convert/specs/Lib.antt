pub mod Convert
pub mod Worked
