pub mod Fold
pub mod Bounds
pub mod Offsets
pub mod Laws
