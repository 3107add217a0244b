pub mod Calls
pub mod Windows
