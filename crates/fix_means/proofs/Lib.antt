pub mod Tallies
pub mod Sums
