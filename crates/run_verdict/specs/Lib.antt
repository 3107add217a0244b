pub mod Verdict
pub mod Worked
