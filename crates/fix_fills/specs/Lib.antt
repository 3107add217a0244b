pub mod InPlace
pub mod Fills
pub mod Worked
