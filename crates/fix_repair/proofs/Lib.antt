pub mod Counting
pub mod Windows
pub mod Totals
pub mod Gathering
