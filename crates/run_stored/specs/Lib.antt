pub mod Mend
pub mod Worked
