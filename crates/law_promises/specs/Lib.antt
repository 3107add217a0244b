pub mod Promises
pub mod TileCalls
pub mod Preview
