pub mod Cuts
pub mod Exits
