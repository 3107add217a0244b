pub mod Walk
pub mod Skips
pub mod Worked
pub mod Promises
