pub mod Occ
pub mod Sorting
pub mod Joining
pub mod Searching
