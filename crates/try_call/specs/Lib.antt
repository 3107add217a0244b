pub mod Calls
pub mod Hex
