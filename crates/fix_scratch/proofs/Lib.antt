pub mod Chosen
pub mod Filling
pub mod Joining
pub mod Sizes
