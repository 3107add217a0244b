pub mod Pgm
pub mod Worked
