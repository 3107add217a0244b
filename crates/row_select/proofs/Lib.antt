pub mod Going
pub mod Sizes
pub mod Steps
pub mod Worked
