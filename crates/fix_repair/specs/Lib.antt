pub mod Fixes
pub mod Works
