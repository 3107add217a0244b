pub mod Performs
