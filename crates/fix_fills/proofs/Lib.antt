pub mod Counting
pub mod Lying
pub mod Placing
pub mod Reading
pub mod Order
pub mod Planes
pub mod Looking
pub mod Passing
