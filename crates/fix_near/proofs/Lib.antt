pub mod Moving
pub mod Sound
pub mod Walking
pub mod Unmarked
