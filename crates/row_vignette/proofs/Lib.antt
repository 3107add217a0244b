pub mod Literals
pub mod Reaching
pub mod Pixels
pub mod Vignetted
