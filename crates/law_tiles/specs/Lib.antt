pub mod Tiles
pub mod Bands
pub mod Worked
