pub mod Place
pub mod Rows
pub mod Fused
pub mod Calls
pub mod Tests
pub mod Order
pub mod Theorem
pub mod Worked
