pub mod Blocks
pub mod Gain
pub mod Strip
pub mod Worked
