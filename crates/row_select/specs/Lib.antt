pub mod Calls
pub mod Steps
pub mod Walks
pub mod Worked
