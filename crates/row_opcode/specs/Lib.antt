pub mod Plans
pub mod Planes
pub mod Ready
pub mod Calls
